-- Which keys a transaction has, with one change more, or one key more.
use Rattle.std.proofs.Common.{◌≡◌, ℕ, ◌+◌, ◌≤◌, ◌<◌, suc, Bool, true, false, true≢false, cond, not, ◌||◌, ◌&&◌, List, [], ◌∷◌, ◌++◌, length, refl, sym, ap, ◌∙◌, Option, Some, is_some, arith}
use Rattle.std.specs.Prelude.{filter}
use Rattle.std.specs.Ordering.{eq_by_cmp, is_eq, is_lt}
use Rattle.std.specs.Str.{bytes_eq}
use Rattle.std.specs.declared.cmp.Ordering.{Ordering}
use Rattle.std.specs.declared.cmp.Ordering.TheVariants.{Less, Equal, Greater}
use Rattle.std.proofs.lemmas.Bool.{and_parts}
use Rattle.std.proofs.lemmas.Cmp.{nat_list_cmp_total}
use Rattle.std.proofs.lemmas.List.{length-append}
use Rattle.std.proofs.lemmas.Map.Text.{is_eq-slice_cmp}
use Rattle.std.proofs.lemmas.Slice.Eq.{bytes_eq-Decides}
use Rattle.wp_model.specs.declared.batch.TheConstants.{MOST_KEYS}
use Rattle.wp_model.specs.declared.change.Change.{Change}
use Rattle.wp_model.specs.Batch.{key_cmp, key_of, value_of, change_to, by_order, with_change, are_ascending}
use Rattle.wp_model.specs.History.{is_changed}
use Rattle.wp_model.specs.LockState.{is_among_keys}
use Rattle.wp_model.proofs.BatchLemmas.{ascending_rest, less_from_test}
use Rattle.wp_model.proofs.Words.{same_word}
use Rattle.wp_locks.specs.Locks.{AreOnce}
use Rattle.wp_open_txns.specs.Txn.{has_key, keys_in, AreFew}

-- ---- which keys a batch changes with one change more

some_of : {X : Type 0} (t : Bool) (x : X) (o : Option X) → is_some (cond t (Some x) o) ≡ (t || is_some o)
some_of true x o = refl
some_of false x o = refl

either_way : (s t u : Bool) → (s || (t || u)) ≡ (t || (s || u))
either_way true true u = refl
either_way true false u = refl
either_way false true u = refl
either_way false false u = refl

twice : (t u : Bool) → (t || (t || u)) ≡ (t || u)
twice true u = refl
twice false u = refl

pub changed_one : (change : Change) (others : List Change) (k : List ℕ) → is_changed (change ∷ others) k ≡ (bytes_eq (key_of change) k || is_changed others k)
changed_one change others k = some_of (bytes_eq (key_of change) k) (value_of change) (change_to others k)

either_turned : (a b : List ℕ) → bytes_eq a b ≡ bytes_eq b a
either_turned a b = by (bytes_eq a b) refl (bytes_eq b a) refl
  where
    by : (s : Bool) → bytes_eq a b ≡ s → (t : Bool) → bytes_eq b a ≡ t → s ≡ t
    by true e true f = refl
    by false e false f = refl
    by true e false f = sym ((bytes_eq-Decides b a).1 (sym ((bytes_eq-Decides a b).0 e))) ∙ f
    by false e true f = sym e ∙ (bytes_eq-Decides a b).1 (sym ((bytes_eq-Decides b a).0 f))

-- ... as the sets of keys compare them
pub same_key : (a b : List ℕ) → bytes_eq a b ≡ eq_by_cmp key_cmp b a
same_key a b = either_turned a b ∙ sym (is_eq-slice_cmp b a)

pub changed_with : (batch : List Change) (change : Change) (k : List ℕ) → is_changed (with_change batch change) k ≡ (bytes_eq (key_of change) k || is_changed batch k)
changed_with [] change k = changed_one change [] k
changed_with (first ∷ others) change k = by (changed_with others change k) (key_cmp (key_of change) (key_of first)) refl
  where
    by : is_changed (with_change others change) k ≡ (bytes_eq (key_of change) k || is_changed others k) → (o : Ordering) → key_cmp (key_of change) (key_of first) ≡ o
        → is_changed (by_order o (change ∷ first ∷ others) (change ∷ others) (first ∷ with_change others change)) k ≡ (bytes_eq (key_of change) k || is_changed (first ∷ others) k)
    by rest Less e = changed_one change (first ∷ others) k
    by rest Equal e =
        let same : key_of change ≡ key_of first = same_word (key_of change) (key_of first) (ap is_eq e) in
        changed_one change others k ∙ sym (twice (bytes_eq (key_of change) k) (is_changed others k))
        ∙ ap (λ (t : Bool). bytes_eq (key_of change) k || t) (ap (λ (key : List ℕ). bytes_eq key k || is_changed others k) same ∙ sym (changed_one first others k))
    by rest Greater e =
        changed_one first (with_change others change) k ∙ ap (λ (t : Bool). bytes_eq (key_of first) k || t) rest
        ∙ either_way (bytes_eq (key_of first) k) (bytes_eq (key_of change) k) (is_changed others k)
        ∙ ap (λ (t : Bool). bytes_eq (key_of change) k || t) (sym (changed_one first others k))

-- ---- the keys as one list

or_in_turn : (s t u : Bool) → (s || (t || u)) ≡ ((s || t) || u)
or_in_turn true t u = refl
or_in_turn false t u = refl

pub among_keys_in : (batch : List Change) (locked : List (List ℕ)) (key : List ℕ) → is_among_keys (keys_in batch locked) key ≡ has_key batch locked key
among_keys_in [] locked key = refl
among_keys_in (change ∷ others) locked key =
    ap (λ (b : Bool). bytes_eq (key_of change) key || b) (among_keys_in others locked key) ∙ or_in_turn (bytes_eq (key_of change) key) (is_changed others key) (is_among_keys locked key)
    ∙ ap (λ (b : Bool). b || is_among_keys locked key) (sym (changed_one change others key))

-- ---- a key goes from the locked ones, or comes to them

-- all but this one
abbrev pub keys_but : List ℕ → List (List ℕ) → List (List ℕ)
keys_but key keys = filter (λ k. not (bytes_eq k key)) keys

and_false : (b : Bool) → (b && false) ≡ false
and_false true = refl
and_false false = refl

but_among : (key : List ℕ) (keys : List (List ℕ)) (q : List ℕ) → is_among_keys (keys_but key keys) q ≡ (is_among_keys keys q && not (bytes_eq key q))
but_among key [] q = refl
but_among key (first ∷ others) q = by (but_among key others q) (bytes_eq first key) refl
  where
    same_first : (t : Bool) → bytes_eq first q ≡ t → first ≡ key → (is_among_keys others q && not (bytes_eq key q)) ≡ ((t || is_among_keys others q) && not (bytes_eq key q))
    same_first true is same = let gone : bytes_eq key q ≡ true = ap (λ (k : List ℕ). bytes_eq k q) (sym same) ∙ is in rw gone (and_false (is_among_keys others q))
    same_first false is same = refl

    kept_first : (t : Bool) → bytes_eq first q ≡ t → bytes_eq first key ≡ false → (t || (is_among_keys others q && not (bytes_eq key q))) ≡ ((t || is_among_keys others q) && not (bytes_eq key q))
    kept_first true is other = let apart : bytes_eq key q ≡ false = either_turned key q ∙ (ap (λ (k : List ℕ). bytes_eq k key) (sym ((bytes_eq-Decides first q).0 is)) ∙ other) in rw apart refl
    kept_first false is other = refl

    by : is_among_keys (keys_but key others) q ≡ (is_among_keys others q && not (bytes_eq key q)) → (s : Bool) → bytes_eq first key ≡ s
        → is_among_keys (cond (not s) (first ∷ keys_but key others) (keys_but key others)) q ≡ (is_among_keys (first ∷ others) q && not (bytes_eq key q))
    by rest true same = rest ∙ same_first (bytes_eq first q) refl ((bytes_eq-Decides first key).0 same)
    by rest false other = ap (λ (b : Bool). bytes_eq first q || b) rest ∙ kept_first (bytes_eq first q) refl other

more_among : (keys : List (List ℕ)) (key q : List ℕ) → is_among_keys (keys ++ key ∷ []) q ≡ (bytes_eq key q || is_among_keys keys q)
more_among [] key q = refl
more_among (first ∷ others) key q = ap (λ (b : Bool). bytes_eq first q || b) (more_among others key q) ∙ either_way (bytes_eq first q) (bytes_eq key q) (is_among_keys others q)

-- a key of the transaction, or this one
moved : (e c a : Bool) → ((e || c) || (a && not e)) ≡ (e || (c || a))
moved true c a = refl
moved false c true = refl
moved false c false = refl

-- with the change, a key that was locked without one is among the changed
pub has_with_change : (batch : List Change) (locked : List (List ℕ)) (change : Change) (q : List ℕ) → has_key (with_change batch change) (keys_but (key_of change) locked) q ≡ (bytes_eq (key_of change) q || has_key batch locked q)
has_with_change batch locked change q =
    (λ i. changed_with batch change q i || but_among (key_of change) locked q i) ∙ moved (bytes_eq (key_of change) q) (is_changed batch q) (is_among_keys locked q)

-- with the key locked
pub has_with_key : (batch : List Change) (locked : List (List ℕ)) (key q : List ℕ) → has_key batch (locked ++ key ∷ []) q ≡ (bytes_eq key q || has_key batch locked q)
has_with_key batch locked key q = ap (λ (b : Bool). is_changed batch q || b) (more_among locked key q) ∙ either_way (is_changed batch q) (bytes_eq key q) (is_among_keys locked q)

-- where the transaction has the key already, it has no other key so
pub none_more : (batch : List Change) (locked : List (List ℕ)) (key q : List ℕ) → has_key batch locked key ≡ true → (bytes_eq key q || has_key batch locked q) ≡ has_key batch locked q
none_more batch locked key q there = by (bytes_eq key q) refl
  where
    by : (t : Bool) → bytes_eq key q ≡ t → (t || has_key batch locked q) ≡ has_key batch locked q
    by true e = sym (ap (has_key batch locked) (sym ((bytes_eq-Decides key q).0 e)) ∙ there)
    by false e = refl

-- ---- how many there are

shorter_but : (key : List ℕ) (keys : List (List ℕ)) → length (keys_but key keys) ≤ length keys
shorter_but key [] = omega arith
shorter_but key (first ∷ others) = by (shorter_but key others) (bytes_eq first key)
  where
    by : length (keys_but key others) ≤ length others → (s : Bool) → length (cond (not s) (first ∷ keys_but key others) (keys_but key others)) ≤ length (first ∷ others)
    by k true = omega (arith, k)
    by k false = omega (arith, k)

shorter_by_one : (key : List ℕ) (keys : List (List ℕ)) → is_among_keys keys key ≡ true → length (keys_but key keys) + 1 ≤ length keys
shorter_by_one key [] there = absurd cc
shorter_by_one key (first ∷ others) there = by (λ is. shorter_by_one key others is) (bytes_eq first key) there
  where
    by : (is_among_keys others key ≡ true → length (keys_but key others) + 1 ≤ length others) → (s : Bool) → (s || is_among_keys others key) ≡ true → length (cond (not s) (first ∷ keys_but key others) (keys_but key others)) + 1 ≤ length (first ∷ others)
    by rest true is = let k = shorter_but key others in omega (arith, k)
    by rest false is = let k = rest is in omega (arith, k)

longer_with : (batch : List Change) (change : Change) → length (with_change batch change) ≤ length batch + 1
longer_with [] change = omega arith
longer_with (first ∷ others) change = by (longer_with others change) (key_cmp (key_of change) (key_of first))
  where
    by : length (with_change others change) ≤ length others + 1 → (o : Ordering) → length (by_order o (change ∷ first ∷ others) (change ∷ others) (first ∷ with_change others change)) ≤ length (first ∷ others) + 1
    by k Less = omega arith
    by k Equal = omega arith
    by k Greater = omega (arith, k)

-- a key below the first is not the first's, and not among the changed ones
above_it : (key : List ℕ) (first : Change) → key_cmp key (key_of first) ≡ Less → bytes_eq (key_of first) key ≡ false
above_it key first below = either_turned (key_of first) key ∙ (sym (is_eq-slice_cmp key (key_of first)) ∙ ap is_eq below)

not_below : (key : List ℕ) (first : Change) (others : List Change) → are_ascending (first ∷ others) ≡ true → key_cmp key (key_of first) ≡ Less → is_changed (first ∷ others) key ≡ false
not_below key first [] ascending below = changed_one first [] key ∙ ap (λ (b : Bool). b || false) (above_it key first below)
not_below key first (second ∷ others) ascending below =
    let parts = and_parts (is_lt (key_cmp (key_of first) (key_of second))) (are_ascending (second ∷ others)) ascending in
    let next : key_cmp key (key_of second) ≡ Less = nat_list_cmp_total.trans key (key_of first) (key_of second) below (less_from_test (key_cmp (key_of first) (key_of second)) parts.0) in
    changed_one first (second ∷ others) key ∙ (λ i. above_it key first below i || not_below key second others parts.1 next i)

as_long : (batch : List Change) (change : Change) → are_ascending batch ≡ true → is_changed batch (key_of change) ≡ true → length (with_change batch change) ≡ length batch
as_long [] change ascending there = absurd cc
as_long (first ∷ others) change ascending there = by (λ later. as_long others change (ascending_rest first others ascending) later) (key_cmp (key_of change) (key_of first)) refl
  where
    by : (is_changed others (key_of change) ≡ true → length (with_change others change) ≡ length others) → (o : Ordering) → key_cmp (key_of change) (key_of first) ≡ o
        → length (by_order o (change ∷ first ∷ others) (change ∷ others) (first ∷ with_change others change)) ≡ length (first ∷ others)
    by rest Less e = absurd (true≢false (sym there ∙ not_below (key_of change) first others ascending e))
    by rest Equal e = refl
    by rest Greater e =
        let apart : bytes_eq (key_of first) (key_of change) ≡ false = either_turned (key_of first) (key_of change) ∙ (sym (is_eq-slice_cmp (key_of change) (key_of first)) ∙ ap is_eq e) in
        let later : is_changed others (key_of change) ≡ true = ap (λ (b : Bool). b || is_changed others (key_of change)) (sym apart) ∙ (sym (changed_one first others (key_of change)) ∙ there) in
        ap suc (rest later)

once_but : (key : List ℕ) (keys : List (List ℕ)) → AreOnce keys → AreOnce (keys_but key keys)
once_but key [] once = tt
once_but key (first ∷ others) once = by (once_but key others once.1) (bytes_eq first key)
  where
    by : AreOnce (keys_but key others) → (s : Bool) → AreOnce (cond (not s) (first ∷ keys_but key others) (keys_but key others))
    by rest true = rest
    by rest false = (but_among key others first ∙ ap (λ (b : Bool). b && not (bytes_eq key first)) once.0, rest)

once_more : (keys : List (List ℕ)) (key : List ℕ) → AreOnce keys → is_among_keys keys key ≡ false → AreOnce (keys ++ key ∷ [])
once_more [] key once none = (refl, tt)
once_more (first ∷ others) key once none = by (λ f. once_more others key once.1 f) (bytes_eq first key) refl none
  where
    by : (is_among_keys others key ≡ false → AreOnce (others ++ key ∷ [])) → (t : Bool) → bytes_eq first key ≡ t → (t || is_among_keys others key) ≡ false → AreOnce ((first ∷ others) ++ key ∷ [])
    by rest true e f = absurd (true≢false f)
    by rest false e f = (more_among others key first ∙ ((λ i. (either_turned key first ∙ e) i || once.0 i)), rest f)

-- ---- few still

only_left : (a e : Bool) → (a && not e) ≡ true → (a ≡ true) × (e ≡ false)
only_left true false is = (refl, refl)
only_left true true is = absurd cc
only_left false e is = absurd cc

neither : (c a : Bool) → (c || a) ≡ false → (c ≡ false) × (a ≡ false)
neither false false is = (refl, refl)
neither false true is = absurd cc
neither true a is = absurd cc

-- the batch has room for a change of the key
pub room_for_change : (batch : List Change) (locked : List (List ℕ)) (key : List ℕ) → length batch + length locked ≤ MOST_KEYS → (has_key batch locked key ≡ false → length batch + length locked < MOST_KEYS) → is_changed batch key ≡ false → length batch < MOST_KEYS
room_for_change batch locked key few room none = by (is_among_keys locked key) refl
  where
    by : (b : Bool) → is_among_keys locked key ≡ b → length batch < MOST_KEYS
    by true there = let one = shorter_by_one key locked there in omega (arith, few, one)
    by false other = let less = room (λ i. none i || other i) in omega (arith, less)

-- there is room for the change: the transaction has the key, or it is not full
pub few_with_change : (batch : List Change) (locked : List (List ℕ)) (change : Change) → are_ascending batch ≡ true → AreFew batch locked → (has_key batch locked (key_of change) ≡ false → length batch + length locked < MOST_KEYS)
    → AreFew (with_change batch change) (keys_but (key_of change) locked)
few_with_change batch locked change ascending few room = record {
  once = once_but key locked few.once;
  apart = λ q there.
      let k = only_left (is_among_keys locked q) (bytes_eq key q) (sym (but_among key locked q) ∙ there) in
      changed_with batch change q ∙ (λ i. k.1 i || few.apart q k.0 i);
  few = by (is_changed batch key) refl (is_among_keys locked key) refl;
}
  where
    key : List ℕ
    key = key_of change

    by : (c : Bool) → is_changed batch key ≡ c → (a : Bool) → is_among_keys locked key ≡ a → length (with_change batch change) + length (keys_but key locked) ≤ MOST_KEYS
    by true changed a among = let same = as_long batch change ascending changed in let short = shorter_but key locked in let most = few.few in omega (arith, same, short, most)
    by false new true among = let long = longer_with batch change in let short = shorter_by_one key locked among in let most = few.few in omega (arith, long, short, most)
    by false new false among = let long = longer_with batch change in let short = shorter_but key locked in let most = room (λ i. new i || among i) in omega (arith, long, short, most)

pub few_with_key : (batch : List Change) (locked : List (List ℕ)) (key : List ℕ) → AreFew batch locked → has_key batch locked key ≡ false → length batch + length locked < MOST_KEYS → AreFew batch (locked ++ key ∷ [])
few_with_key batch locked key few new room = let none = neither (is_changed batch key) (is_among_keys locked key) new in record {
  once = once_more locked key few.once none.1;
  apart = λ q there. by q (bytes_eq key q) refl (sym (more_among locked key q) ∙ there);
  few = let long = length-append locked (key ∷ []) in omega (arith, long, room);
}
  where
    by : (q : List ℕ) (t : Bool) → bytes_eq key q ≡ t → (t || is_among_keys locked q) ≡ true → is_changed batch q ≡ false
    by q true e is = ap (is_changed batch) (sym ((bytes_eq-Decides key q).0 e)) ∙ (neither (is_changed batch key) (is_among_keys locked key) new).0
    by q false e is = few.apart q is
