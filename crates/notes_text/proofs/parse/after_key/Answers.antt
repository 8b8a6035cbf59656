-- `notes_text::parse::after_key` meets its contract. Without a comma nothing stands where the answer is due. Assumes nothing.
use Rattle.session_keys.proofs.Laws.{rest}
use Rattle.notes_text.proofs.Laws.{no_comma, at_comma}
use Rattle.notes_text.proofs.parse.after_key.Goals as goal

pub returns-then-s-p : goal.returns-then-s-p
returns-then-s-p c = no_comma c.args.s.now c.last_comma-p.result c.last_comma-p.ensures.0 c.if-s-p.true

pub returns : goal.returns
returns c =
    at_comma c.args.s.now c.last_comma-p.result c.last_comma-p.ensures.0 _ _ _ c.start.ensures (rw rest at c.answer.ensures) c.noted.ensures
