-- The fixed byte strings of a session, in ASCII: the keys that the paper's grammar and output lines write in backquotes.
-- Assumes nothing.
use Rattle.std.specs.Prelude.{ℕ, ◌≡◌, refl, List, [], ◌∷◌}
use Rattle.session.specs.Ascii.{codes, ascii}

abbrev pub newline : ℕ
newline = 10

abbrev pub comma : ℕ
comma = 44

-- `tasks=`
abbrev pub tasks_key : List ℕ
tasks_key = 116 ∷ 97 ∷ 115 ∷ 107 ∷ 115 ∷ 61 ∷ []

-- `nodes=`
abbrev pub nodes_key : List ℕ
nodes_key = 110 ∷ 111 ∷ 100 ∷ 101 ∷ 115 ∷ 61 ∷ []

-- `buckets=`
abbrev pub buckets_key : List ℕ
buckets_key = 98 ∷ 117 ∷ 99 ∷ 107 ∷ 101 ∷ 116 ∷ 115 ∷ 61 ∷ []

-- `version=`
abbrev pub version_key : List ℕ
version_key = 118 ∷ 101 ∷ 114 ∷ 115 ∷ 105 ∷ 111 ∷ 110 ∷ 61 ∷ []

-- `blank=no`
abbrev pub blank_line : List ℕ
blank_line = 98 ∷ 108 ∷ 97 ∷ 110 ∷ 107 ∷ 61 ∷ 110 ∷ 111 ∷ []

-- `start=`
abbrev pub start_key : List ℕ
start_key = 115 ∷ 116 ∷ 97 ∷ 114 ∷ 116 ∷ 61 ∷ []

-- `step=`
abbrev pub step_key : List ℕ
step_key = 115 ∷ 116 ∷ 101 ∷ 112 ∷ 61 ∷ []

-- `insert,`
abbrev pub insert_key : List ℕ
insert_key = 105 ∷ 110 ∷ 115 ∷ 101 ∷ 114 ∷ 116 ∷ 44 ∷ []

-- `remove,`
abbrev pub remove_key : List ℕ
remove_key = 114 ∷ 101 ∷ 109 ∷ 111 ∷ 118 ∷ 101 ∷ 44 ∷ []

-- `contains,`
abbrev pub contains_key : List ℕ
contains_key = 99 ∷ 111 ∷ 110 ∷ 116 ∷ 97 ∷ 105 ∷ 110 ∷ 115 ∷ 44 ∷ []

-- `grow`
abbrev pub grow_word : List ℕ
grow_word = 103 ∷ 114 ∷ 111 ∷ 119 ∷ []

-- `shrink`
abbrev pub shrink_word : List ℕ
shrink_word = 115 ∷ 104 ∷ 114 ∷ 105 ∷ 110 ∷ 107 ∷ []

-- `at=`
abbrev pub at_key : List ℕ
at_key = 97 ∷ 116 ∷ 61 ∷ []

-- `end=`
abbrev pub end_key : List ℕ
end_key = 101 ∷ 110 ∷ 100 ∷ 61 ∷ []

-- `refuse=`
abbrev pub refuse_key : List ℕ
refuse_key = 114 ∷ 101 ∷ 102 ∷ 117 ∷ 115 ∷ 101 ∷ 61 ∷ []

-- `size=`
abbrev pub size_key : List ℕ
size_key = 115 ∷ 105 ∷ 122 ∷ 101 ∷ 61 ∷ []

-- `tags=`
abbrev pub tags_key : List ℕ
tags_key = 116 ∷ 97 ∷ 103 ∷ 115 ∷ 61 ∷ []

-- `tag=`
abbrev pub tag_key : List ℕ
tag_key = 116 ∷ 97 ∷ 103 ∷ 61 ∷ []

-- `yes`
abbrev pub yes_word : List ℕ
yes_word = 121 ∷ 101 ∷ 115 ∷ []

-- `no`
abbrev pub no_word : List ℕ
no_word = 110 ∷ 111 ∷ []

-- `full`
abbrev pub full_word : List ℕ
full_word = 102 ∷ 117 ∷ 108 ∷ 108 ∷ []

-- `done`
abbrev pub done_word : List ℕ
done_word = 100 ∷ 111 ∷ 110 ∷ 101 ∷ []

-- `lost`
abbrev pub lost_word : List ℕ
lost_word = 108 ∷ 111 ∷ 115 ∷ 116 ∷ []

-- `limit`
abbrev pub limit_word : List ℕ
limit_word = 108 ∷ 105 ∷ 109 ∷ 105 ∷ 116 ∷ []

-- ---- each is the ASCII of its text

unfoldable pub all_keys : List (List ℕ)
all_keys =
    tasks_key ∷ nodes_key ∷ buckets_key ∷ version_key ∷ blank_line ∷ start_key ∷ step_key
    ∷ insert_key ∷ remove_key ∷ contains_key ∷ grow_word ∷ shrink_word
    ∷ at_key ∷ end_key ∷ refuse_key ∷ size_key ∷ tags_key
    ∷ tag_key ∷ yes_word ∷ no_word ∷ full_word ∷ done_word
    ∷ lost_word ∷ limit_word ∷ []

pub keys_spelled : all_keys
    ≡ ascii "tasks=" ∷ ascii "nodes=" ∷ ascii "buckets=" ∷ ascii "version=" ∷ ascii "blank=no" ∷ ascii "start=" ∷ ascii "step="
    ∷ ascii "insert," ∷ ascii "remove," ∷ ascii "contains," ∷ ascii "grow" ∷ ascii "shrink"
    ∷ ascii "at=" ∷ ascii "end=" ∷ ascii "refuse=" ∷ ascii "size=" ∷ ascii "tags="
    ∷ ascii "tag=" ∷ ascii "yes" ∷ ascii "no" ∷ ascii "full" ∷ ascii "done"
    ∷ ascii "lost" ∷ ascii "limit" ∷ []
unfolding codes ascii all_keys
keys_spelled = refl
