-- The state of names, keys and labels: the live names, the held keys and the board.
use Rattle.std.specs.Prelude.{ℕ, Bool, List, Option, refl}
use Rattle.std.specs.List.{list_any}
use Rattle.std.specs.Str.{bytes_eq}
use Rattle.std.specs.FinMap as map
use Rattle.std.specs.Coded.{Coded, code_by, coded×, coded_ℕ, coded_list, coded_option}
use Rattle.wp_model.specs.Batch.{key_cmp}
use Rattle.wp_model.specs.declared.holder.Holder.{Holder}
use Rattle.wp_model.specs.Holder.{holder_code}

-- the live names, each with the client that has it, if one does
abbrev pub Names : Type 0
Names = map.FinMap key_cmp (Option (List ℕ))

-- the held keys, each with its holder
abbrev pub Keys : Type 0
Keys = map.FinMap key_cmp Holder

-- the labels, each with the number that was told last
abbrev pub Labels : Type 0
Labels = map.FinMap key_cmp ℕ

pub record LockState : Type 0 where
  pub names : Names
  pub keys : Keys
  pub labels : Labels

-- they are stored as their fields, in nested pairs
abbrev pub lock_state_code : Coded LockState
lock_state_code =
    code_by (Names × (Keys × Labels))
    (coded× (map.code (coded_list coded_ℕ) (coded_option (coded_list coded_ℕ))) (coded× (map.code (coded_list coded_ℕ) holder_code) (map.code (coded_list coded_ℕ) coded_ℕ)))
    (λ t. (t.names, (t.keys, t.labels)))
    (λ p. record { names = p.0; keys = p.1.0; labels = p.1.1 })
    (λ _. refl)

-- no name is live, no key is held and nothing was told
abbrev pub nothing_locked : LockState
nothing_locked = record { names = map.empty; keys = map.empty; labels = map.empty }

-- the key is one of these
abbrev pub is_among_keys : List (List ℕ) → List ℕ → Bool
is_among_keys keys key = list_any (λ k. bytes_eq k key) keys
