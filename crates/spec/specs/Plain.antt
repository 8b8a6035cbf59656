-- "The plain set that answers are held against": an ascending list of tags. Assumes nothing.
use Rattle.std.specs.Prelude.{ℕ, List, Bool, leb, length, if◌then◌else◌}
use Rattle.spec.specs.declared.Answer.{Answer}
use Rattle.spec.specs.declared.Answer.TheVariants.{Yes, No, Full, Done, Lost, Limit}
use Rattle.spec.specs.declared.Call.{Call}
use Rattle.spec.specs.declared.Call.TheVariants.{Insert, Remove, Contains, Grow, Shrink}
use Rattle.spec.specs.Lists.{member, add_tag, remove_tag}

-- paper 02, U1: an insert of a tag that is there "ends no, whatever the count; full is left for absent tags", and yes for those
-- that find room: of the number of tags in the set and whether the tag is there. "The plain set .. changes likewise": line 36
-- answers by the same definition.
unfoldable pub insert_answer : ℕ → Bool → Answer
insert_answer count present = if present then No else if leb 64 count then Full else Yes

-- "remove (which takes it out) and contains give yes if it has the tag, else no"
abbrev pub found_answer : Bool → Answer
found_answer present = if present then Yes else No

pub record Plain : Type 0 where
  pub answer : Answer
  pub tags : List ℕ

-- the set after an insert that was answered so
unfoldable pub inserted : Answer → ℕ → List ℕ → List ℕ
inserted Yes k ks = add_tag k ks
inserted No k ks = ks
inserted Full k ks = ks
inserted Done k ks = ks
inserted Lost k ks = ks
inserted Limit k ks = ks

unfoldable pub plain_insert : List ℕ → ℕ → Plain
plain_insert ks k = let a = insert_answer (length ks) (member k ks) in record { answer = a; tags = inserted a k ks }

unfoldable pub plain_remove : List ℕ → ℕ → Plain
plain_remove ks k = record { answer = found_answer (member k ks); tags = remove_tag k ks }

unfoldable pub plain_contains : List ℕ → ℕ → Plain
plain_contains ks k = record { answer = found_answer (member k ks); tags = ks }

-- resizes are no calls of the plain set: they leave it
unfoldable pub plain : List ℕ → Call → ℕ → Plain
plain ks Insert k = plain_insert ks k
plain ks Remove k = plain_remove ks k
plain ks Contains k = plain_contains ks k
plain ks Grow k = record { answer = Done; tags = ks }
plain ks Shrink k = record { answer = Done; tags = ks }
