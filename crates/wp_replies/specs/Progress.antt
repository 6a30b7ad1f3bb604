-- What a client knows by its replies so far.
use Rattle.std.specs.Prelude.{ℕ, Bool, List, [], ◌∷◌, ◌++◌, map, Option, Some, None, if◌then◌else◌}
use Rattle.std.specs.List.{list_any}
use Rattle.std.specs.Option.{option_or}
use Rattle.std.specs.Str.{bytes_eq}
use Rattle.wp_text.specs.declared.script.Command.{Command}
use Rattle.wp_text.specs.declared.script.Command.TheVariants as command
use Rattle.wp_text.specs.declared.reply.Reply.{Reply}
use Rattle.wp_text.specs.declared.reply.Reply.TheVariants as reply
use Rattle.wp_replies.specs.Kind.{fresh_in, last_after, tables_after, base_after}

-- A key that came to the transaction that the client began last: the greatest fresh number that it had been answered before, and the
-- first one that it was answered from then on.
pub record ToldKey : Type 0 where
  pub key : List ℕ
  pub told : ℕ
  pub behind : Option ℕ

pub record Progress : Type 0 where
  pub last : ℕ  -- the greatest fresh number
  pub tables : ℕ  -- how many tables it knows of
  pub base : ℕ  -- of the log, as the client was answered it last, or else as the log was opened
  pub labels : List (List ℕ)  -- for which it was answered `told` or `heard`
  pub keys : List ToldKey  -- of the transaction that it began last

abbrev pub knows_label : List (List ℕ) → List ℕ → Bool
knows_label labels label = list_any (λ known. bytes_eq known label) labels

-- the labels after a reply
abbrev pub heard_after : List (List ℕ) → Command → Reply → List (List ℕ)
heard_after labels (command.Tell label) (reply.Told n) = label ∷ labels
heard_after labels (command.Hear label) (reply.Heard n) = label ∷ labels
heard_after labels command answer = labels

-- the key that comes to the transaction with the reply, if it had not come before
abbrev pub key_come : Command → Reply → Option (List ℕ)
key_come (command.Put key value) reply.Held = Some key
key_come (command.Del key) reply.Held = Some key
key_come (command.Lock key) (reply.Got value n) = Some key
key_come (command.Lock key) (reply.Missing n) = Some key
key_come command answer = None

-- the key is one of these
abbrev pub is_told : List ToldKey → List ℕ → Bool
is_told keys key = list_any (λ k. bytes_eq k.key key) keys

-- the keys with this one
abbrev pub with_key : List ToldKey → Option (List ℕ) → (told : ℕ) → List ToldKey
with_key keys None told = keys
with_key keys (Some key) told = if is_told keys key then keys else keys ++ record { key = key; told = told; behind = None } ∷ []

-- the key where this is a fresh number of the reply
abbrev pub with_fresh : Option ℕ → ToldKey → ToldKey
with_fresh fresh k = record k { behind = option_or k.behind fresh }

abbrev pub with_behind : List ToldKey → Option ℕ → List ToldKey
with_behind keys fresh = map (with_fresh fresh) keys

-- the keys after a reply: that of a lock reads behind it
abbrev pub keys_after : Progress → Command → Reply → List ToldKey
keys_after progress (command.Begin name) reply.Begun = []
keys_after progress command answer = with_behind (with_key progress.keys (key_come command answer) progress.last) (fresh_in command answer)

abbrev pub progress_after : Progress → Command → Reply → Progress
progress_after progress command answer = record {
  last = last_after progress.last command answer;
  tables = tables_after progress.tables answer;
  base = base_after progress.base answer;
  labels = heard_after progress.labels command answer;
  keys = keys_after progress command answer;
}
