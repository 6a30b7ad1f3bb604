-- What stands in a log stands on: behind a closed gate, and where a gate is opened wholly.
use Rattle.std.proofs.Common.{◌≡◌, ◌≢◌, ℕ, ◌<◌, List, [], ◌∷◌, ◌++◌, length, drop, refl, sym, ◌∙◌, ap, subst, arith, length-append}
use Rattle.std.proofs.lemmas.List.{append_assoc}
use Rattle.wp_outside.specs.Disk.{Each}
use Rattle.wp_gatelog.specs.Spelling.{Gated, Stamp, IsOpen, IsUnmade, framed, identity, all_gated, log_of, records_of}
use Rattle.wp_gatelog.specs.Stands.{Stands}
use Rattle.wp_gatelog.proofs.ParseLemmas.{same_parts, same_framed, first_split, length-identities}

-- these records stand behind open gates in the bytes behind a head, and one more byte follows
pub record StandIn (records : List (List ℕ)) (bytes : List ℕ) : Type 0 where
  pub gated : List Gated
  pub gate : ℕ
  pub rest : List ℕ
  pub spelling : bytes ≡ all_gated gated ++ gate ∷ rest
  pub gates_open : Each IsOpen gated
  pub same : records ≡ records_of gated

none_stand : (byte : ℕ) (bytes : List ℕ) → StandIn [] (byte ∷ bytes)
none_stand byte bytes = record { gated = []; gate = byte; rest = bytes; spelling = refl; gates_open = tt; same = refl }

one_more : (g : Gated) (records : List (List ℕ)) (bytes : List ℕ) → IsOpen g → StandIn records bytes → StandIn (g.bytes ∷ records) (g.gate ∷ (framed g.bytes ++ bytes))
one_more g records bytes opened stand = record {
  gated = g ∷ stand.gated;
  gate = stand.gate;
  rest = stand.rest;
  spelling = ap (λ (l : List ℕ). g.gate ∷ (framed g.bytes ++ l)) stand.spelling ∙ sym (first_split g stand.gated (stand.gate ∷ stand.rest));
  gates_open = (opened, stand.gates_open);
  same = ap (λ (l : List (List ℕ)). g.bytes ∷ l) stand.same;
}

module _ (byte new : ℕ) (old_rest new_rest : List ℕ) (at_gate : (x : Gated) (xs : List Gated) (gate : ℕ) (rest : List ℕ) → IsOpen x → Each IsOpen xs
    → byte ∷ old_rest ≡ all_gated (x ∷ xs) ++ gate ∷ rest → StandIn (records_of (x ∷ xs)) (new ∷ new_rest)) where
  -- Behind these records the bytes change from one gate on.
  stands_past : (gs : List Gated) (hs : List Gated) (gate : ℕ) (rest : List ℕ) → Each IsOpen gs → Each IsOpen hs
      → all_gated gs ++ byte ∷ old_rest ≡ all_gated hs ++ gate ∷ rest → StandIn (records_of hs) (all_gated gs ++ new ∷ new_rest)
  stands_past [] [] gate rest eg eh is = none_stand new new_rest
  stands_past (g ∷ gs) [] gate rest eg eh is = subst (StandIn []) (sym (first_split g gs (new ∷ new_rest))) (none_stand g.gate (framed g.bytes ++ (all_gated gs ++ new ∷ new_rest)))
  stands_past [] (h ∷ hs) gate rest eg eh is = at_gate h hs gate rest eh.0 eh.1 is
  stands_past (g ∷ gs) (h ∷ hs) gate rest eg eh is =
      let both : g.gate ∷ (framed g.bytes ++ (all_gated gs ++ byte ∷ old_rest)) ≡ h.gate ∷ (framed h.bytes ++ (all_gated hs ++ gate ∷ rest)) =
      sym (first_split g gs (byte ∷ old_rest)) ∙ is ∙ first_split h hs (gate ∷ rest) in
      let following : framed g.bytes ++ (all_gated gs ++ byte ∷ old_rest) ≡ framed h.bytes ++ (all_gated hs ++ gate ∷ rest) = cc in
      let bytes = same_framed g.bytes h.bytes (all_gated gs ++ byte ∷ old_rest) (all_gated hs ++ gate ∷ rest) eg.0.length_fits eh.0.length_fits following in
      let more = stands_past gs hs gate rest eg.1 eh.1 bytes.1 in
      subst (λ (b : List ℕ). StandIn (b ∷ records_of hs) (all_gated (g ∷ gs) ++ new ∷ new_rest)) bytes.0
      (subst (StandIn (g.bytes ∷ records_of hs)) (sym (first_split g gs (new ∷ new_rest))) (one_more g (records_of hs) (all_gated gs ++ new ∷ new_rest) eg.0 more))

-- ---- the whole log

module _ (magic : List ℕ) (stamp : Stamp) (head : ℕ) (gs : List Gated) (opened : head ≢ 0) (open_gates : Each IsOpen gs) (other : Stamp) (records : List (List ℕ)) where
  log_split : (rest : List ℕ) → log_of magic stamp head gs ++ rest ≡ head ∷ (identity magic stamp ++ (all_gated gs ++ rest))
  log_split rest = ap (λ (l : List ℕ). head ∷ l) (append_assoc (identity magic stamp) (all_gated gs) rest)

  -- from the records behind the head to all
  stands_whole : (byte new : ℕ) (old_rest new_rest : List ℕ)
      → ((hs : List Gated) (gate : ℕ) (rest : List ℕ) → Each IsOpen hs → all_gated gs ++ byte ∷ old_rest ≡ all_gated hs ++ gate ∷ rest → StandIn (records_of hs) (all_gated gs ++ new ∷ new_rest))
      → Stands magic other records (log_of magic stamp head gs ++ byte ∷ old_rest) → Stands magic other records (log_of magic stamp head gs ++ new ∷ new_rest)
  stands_whole byte new old_rest new_rest past stands =
      let is : head ∷ (identity magic stamp ++ (all_gated gs ++ byte ∷ old_rest)) ≡ stands.head ∷ (identity magic other ++ (all_gated stands.gated ++ stands.gate ∷ stands.rest)) =
      sym (log_split (byte ∷ old_rest)) ∙ stands.spelling ∙ ap (λ (l : List ℕ). stands.head ∷ l) (append_assoc (identity magic other) (all_gated stands.gated) (stands.gate ∷ stands.rest)) in
      let behind : identity magic stamp ++ (all_gated gs ++ byte ∷ old_rest) ≡ identity magic other ++ (all_gated stands.gated ++ stands.gate ∷ stands.rest) = cc in
      let split = same_parts (identity magic stamp) (identity magic other) (all_gated gs ++ byte ∷ old_rest) (all_gated stands.gated ++ stands.gate ∷ stands.rest) (length-identities magic stamp other) behind in
      let found = past stands.gated stands.gate stands.rest stands.gates_open split.1 in
      record {
        head = head;
        gated = found.gated;
        gate = found.gate;
        rest = found.rest;
        spelling = log_split (new ∷ new_rest) ∙ ap (λ (l : List ℕ). head ∷ (l ++ (all_gated gs ++ new ∷ new_rest))) split.0 ∙ ap (λ (l : List ℕ). head ∷ (identity magic other ++ l)) found.spelling
            ∙ ap (λ (l : List ℕ). head ∷ l) (sym (append_assoc (identity magic other) (all_gated found.gated) (found.gate ∷ found.rest)));
        head_open = opened;
        gates_open = found.gates_open;
        same = stands.same ∙ found.same;
      }

  -- what follows a closed gate may change
  pub stands_behind : (old_rest new_rest : List ℕ) → Stands magic other records (log_of magic stamp head gs ++ 0 ∷ old_rest) → Stands magic other records (log_of magic stamp head gs ++ 0 ∷ new_rest)
  stands_behind old_rest new_rest =
      stands_whole 0 0 old_rest new_rest (λ hs gate rest eh is. stands_past 0 0 old_rest new_rest none gs hs gate rest open_gates eh is)
    where
      none : (x : Gated) (xs : List Gated) (gate : ℕ) (rest : List ℕ) → IsOpen x → Each IsOpen xs → 0 ∷ old_rest ≡ all_gated (x ∷ xs) ++ gate ∷ rest → StandIn (records_of (x ∷ xs)) (0 ∷ new_rest)
      none x xs gate rest ox exs is =
          let split : 0 ∷ old_rest ≡ x.gate ∷ (framed x.bytes ++ (all_gated xs ++ gate ∷ rest)) = is ∙ first_split x xs (gate ∷ rest) in
          let shut : x.gate ≡ 0 = cc in
          absurd (ox.gate shut)

  -- a gate is opened wholly
  pub stands_gate : (byte : ℕ) (rest : List ℕ) → Stands magic other records (log_of magic stamp head gs ++ byte ∷ rest) → Stands magic other records (log_of magic stamp head gs ++ 1 ∷ rest)
  stands_gate byte following =
      stands_whole byte 1 following following (λ hs gate rest eh is. stands_past byte 1 following following by gs hs gate rest open_gates eh is)
    where
      by : (x : Gated) (xs : List Gated) (gate : ℕ) (rest : List ℕ) → IsOpen x → Each IsOpen xs → byte ∷ following ≡ all_gated (x ∷ xs) ++ gate ∷ rest → StandIn (records_of (x ∷ xs)) (1 ∷ following)
      by x xs gate rest ox exs is =
          let split : byte ∷ following ≡ x.gate ∷ (framed x.bytes ++ (all_gated xs ++ gate ∷ rest)) = is ∙ first_split x xs (gate ∷ rest) in
          let behind : following ≡ framed x.bytes ++ (all_gated xs ++ gate ∷ rest) = cc in
          subst (λ (l : List ℕ). StandIn (records_of (x ∷ xs)) (1 ∷ l)) (sym behind)
          (one_more (record { gate = 1; bytes = x.bytes }) (records_of xs) (all_gated xs ++ gate ∷ rest) (record { gate = λ e. cc e; length_fits = ox.length_fits })
          (record { gated = xs; gate = gate; rest = rest; spelling = refl; gates_open = exs; same = refl }))

-- the head's gate is opened wholly
pub stands_head : (magic : List ℕ) (stamp : Stamp) (head : ℕ) (records : List (List ℕ)) (tail : List ℕ) → Stands magic stamp records (head ∷ tail) → Stands magic stamp records (1 ∷ tail)
stands_head magic stamp head records tail stands = record {
  head = 1;
  gated = stands.gated;
  gate = stands.gate;
  rest = stands.rest;
  spelling =
      (let behind : tail ≡ (identity magic stamp ++ all_gated stands.gated) ++ stands.gate ∷ stands.rest = ap (λ (l : List ℕ). drop 1 l) stands.spelling in
      ap (λ (l : List ℕ). 1 ∷ l) behind);
  head_open = λ e. cc e;
  gates_open = stands.gates_open;
  same = stands.same;
}

-- where no log was made none stand
pub unmade_stands : (magic : List ℕ) (stamp : Stamp) (records : List (List ℕ)) (bytes : List ℕ) → IsUnmade bytes → Stands magic stamp records bytes → ⊥
unmade_stands magic stamp records bytes unmade stands =
    by ((identity magic stamp ++ all_gated stands.gated) ++ stands.gate ∷ stands.rest) (omega (arith, length-append (identity magic stamp ++ all_gated stands.gated) (stands.gate ∷ stands.rest))) (subst IsUnmade stands.spelling unmade)
  where
    by : (tail : List ℕ) → 0 < length tail → IsUnmade (stands.head ∷ tail) → ⊥
    by [] some unmade = omega arith
    by (b ∷ tail) some unmade = stands.head_open unmade
