-- `session_bytes::Page::digits` calls itself with fewer digits allowed.
use Rattle.session_bytes.proofs.Page.+digits.Given as goal

abbrev pub decreases-digits : goal.decreases-digits
decreases-digits l = l.most
