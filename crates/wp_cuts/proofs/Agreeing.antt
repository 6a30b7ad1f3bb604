-- Lists with one cut and the same values at its base agree from there on.
use Rattle.std.proofs.Common.{◌≡◌, ℕ, ◌+◌, ◌-◌, ◌<◌, ◌≤◌, Bool, true, eqb, List, [], ◌∷◌, ◌++◌, length, map, take, drop, Option, Some, None, refl, sym, ap, ◌∙◌, subst, inl, inr, append_assoc, length-append, arith}
use Rattle.std.specs.Prelude.{slice_get}
use Rattle.std.specs.List.{list_any, filter, range_with_len}
use Rattle.std.proofs.lemmas.Bool.{cases_lt, cases_Bool, or_cases, eqb-true}
use Rattle.std.proofs.lemmas.List.{take_at, drop_at, drop-drop, take-append-drop, length-take-le}
use Rattle.wp_model.specs.declared.carried.Carried.{Carried}
use Rattle.wp_model.specs.declared.entry.Entry.{Entry}
use Rattle.wp_model.specs.declared.entry.Entry.TheVariants.{Write, Prepare, Commit, Undo, Close}
use Rattle.wp_model.specs.History.{entry_at, is_prepare, prepared_name, prepared_batch, is_undecided, undecided, value_at, newest}
use Rattle.wp_model.specs.Legal.{NamesUndecided}
use Rattle.wp_model.specs.Decision.{entry_version, is_by, is_committed}
use Rattle.wp_model.proofs.Entries.{entry_at_old, undecided_prepared, undecided_within}
use Rattle.wp_history_laws.proofs.Undecided.{is_undecided_by_list, never_decided}
use Rattle.wp_history_laws.proofs.Growth.{AreNaming}
use Rattle.wp_history_laws.proofs.Following.{follow_front}
use Rattle.wp_cuts.specs.Cut.{Cut, carried_from, carried_of, cut_at, IsCut}
use Rattle.wp_cuts.specs.Agree.{HaveSameValues, AgreeFrom}
use Rattle.wp_cuts.proofs.Alike.{AreAlike, alike_behind, values_behind, undecided_alike, named_alike, holder_alike}
use Rattle.wp_cuts.proofs.Decided.{entry_at_behind, decision_behind, undecided_not_decided, fixed_is_committed}

-- ---- with the same entries behind

pub take_behind : (front more : List Entry) (n : ℕ) → length front ≤ n → n ≤ length (front ++ more) → take n (front ++ more) ≡ front ++ take (n - length front) more
take_behind front more n above within =
    let k = n - length front in
    let inside : k ≤ length more = omega (arith, length-append front more) in
    let whole : front ++ more ≡ (front ++ take k more) ++ drop k more = ap (λ (h : List Entry). front ++ h) (sym (take-append-drop k more)) ∙ sym (append_assoc front (take k more) (drop k more)) in
    let long : length (front ++ take k more) ≡ n = omega (arith, length-append front (take k more), length-take-le k more inside) in
    ap (take n) whole ∙ take_at (front ++ take k more) (drop k more) n long

pub naming_to : (front more : List Entry) (k : ℕ) → AreNaming (front ++ more) → AreNaming (front ++ take k more)
naming_to front more k naming =
    let whole : front ++ more ≡ (front ++ take k more) ++ drop k more = ap (λ (h : List Entry). front ++ h) (sym (take-append-drop k more)) ∙ sym (append_assoc front (take k more) (drop k more)) in
    follow_front NamesUndecided (front ++ take k more) (drop k more) (subst AreNaming whole naming)

pub drop_behind : (front more : List Entry) (n : ℕ) → length front ≤ n → drop n (front ++ more) ≡ drop (n - length front) more
drop_behind front more n above =
    let k = n - length front in
    let split : n ≡ length front + k = omega arith in
    ap (λ (m : ℕ). drop m (front ++ more)) split ∙ sym (drop-drop k (length front) (front ++ more)) ∙ ap (drop k) (drop_at front more (length front) refl)

map_alike : (keeps : ℕ → Bool) (f g : ℕ → Carried) → ((p : ℕ) → keeps p ≡ true → f p ≡ g p) → (ps : List ℕ) → map f (filter keeps ps) ≡ map g (filter keeps ps)
map_alike keeps f g same [] = refl
map_alike keeps f g same (p ∷ ps) =
    let rest = map_alike keeps f g same ps in
    elim (cases_Bool (keeps p)) [
      | inl kept ↦ rw (kept, same p kept, rest) refl
      | inr dropped ↦ rw dropped rest
    ]

-- what both carry, cut at their ends
carried_alike : (one other : List Entry) → AreAlike one other → carried_of one ≡ carried_of other
carried_alike one other a =
    map_alike (is_undecided one) (carried_from one) (carried_from other) (λ p undecided. λ i. record { number = p; name = prepared_name (a.prepares p undecided i); batch = prepared_batch (a.prepares p undecided i) }) (range_with_len 1 (length one))
    ∙ ap (map (carried_from other)) (undecided_alike one other a)

module _ (one other more : List Entry) (a : AreAlike one other) (naming : AreNaming (one ++ more)) (also : AreNaming other) (same : (key : List ℕ) → newest one key ≡ newest other key) where
  whole_long : length (one ++ more) ≡ length (other ++ more)
  whole_long = length-append one more ∙ ap (λ (n : ℕ). n + length more) a.long ∙ sym (length-append other more)

  -- both cut at n
  both_to : (n : ℕ) → length one ≤ n → n ≤ length (one ++ more) → AreAlike (take n (one ++ more)) (take n (other ++ more))
  both_to n above within =
      let k = n - length one in
      let alike = (alike_behind one other (take k more) a (naming_to one more k naming) also).alike in
      let second : take n (other ++ more) ≡ other ++ take k more = take_behind other more n (omega (arith, a.long)) (omega (arith, whole_long)) ∙ ap (λ (m : ℕ). other ++ take (n - m) more) (sym a.long) in
      subst (λ (h : List Entry). AreAlike h (take n (other ++ more))) (sym (take_behind one more n above within)) (subst (AreAlike (one ++ take k more)) (sym second) alike)

  values_to : (key : List ℕ) (n : ℕ) → length one ≤ n → n ≤ length (one ++ more) → value_at (one ++ more) key n ≡ value_at (other ++ more) key n
  values_to key n above within =
      let k = n - length one in
      let second : take n (other ++ more) ≡ other ++ take k more = take_behind other more n (omega (arith, a.long)) (omega (arith, whole_long)) ∙ ap (λ (m : ℕ). other ++ take (n - m) more) (sym a.long) in
      ap (λ (h : List Entry). newest h key) (take_behind one more n above within)
      ∙ values_behind one other (take k more) key a (naming_to one more k naming) also (same key)
      ∙ ap (λ (h : List Entry). newest h key) (sym second)

  entries_behind : (p : ℕ) → length one < p → entry_at (one ++ more) p ≡ entry_at (other ++ more) p
  entries_behind p above = entry_at_behind one more p above ∙ ap (λ (n : ℕ). slice_get more (p - 1 - n)) a.long ∙ sym (entry_at_behind other more p (omega (arith, a.long)))

  entries_carried : (p : ℕ) → is_undecided one p ≡ true → entry_at (one ++ more) p ≡ entry_at (other ++ more) p
  entries_carried p undecided =
      let within = undecided_within one p undecided in
      entry_at_old one more p within.1 ∙ a.prepares p undecided ∙ sym (entry_at_old other more p (omega (arith, within.1, a.long)))

  committed_alike : (key : List ℕ) (p n : ℕ) (value its : Option (List ℕ)) → length one ≤ n → entry_version (one ++ more) p key ≡ Some value → entry_version (other ++ more) p key ≡ Some its → is_committed (one ++ more) p n ≡ is_committed (other ++ more) p n
  committed_alike key p n value its above there there_too =
      elim (cases_lt (length one) p) [
        | inl behind ↦ ap (λ (d : Option ℕ). is_by d n) (decision_behind one other more p a.long (never_decided one p (follow_front NamesUndecided one more naming) behind) (never_decided other p also (omega (arith, a.long))) (entries_behind p behind))
        | inr le ↦ elim (cases_Bool (is_undecided one p)) [
          | inl undecided ↦ ap (λ (d : Option ℕ). is_by d n) (decision_behind one other more p a.long (undecided_not_decided one p undecided) (undecided_not_decided other p (sym (a.same p) ∙ undecided)) (entries_carried p undecided))
          | inr decided ↦
              fixed_is_committed one more key p n value le above decided there
              ∙ sym (fixed_is_committed other more key p n its (omega (arith, a.long)) (omega (arith, a.long)) (sym (a.same p) ∙ decided) there_too)
        ]
      ]

  cuts_to : (m : ℕ) → length one ≤ m → m ≤ length (one ++ more) → cut_at (one ++ more) m ≡ cut_at (other ++ more) m
  cuts_to m above within =
      let carried = carried_alike (take m (one ++ more)) (take m (other ++ more)) (both_to m above within) in
      let entries = drop_behind one more m above ∙ ap (λ (n : ℕ). drop (m - n) more) a.long ∙ sym (drop_behind other more m (omega (arith, a.long))) in
      λ i. record { base = m; carried = carried i; entries = entries i }

  pub agree_behind : AgreeFrom (one ++ more) (other ++ more) (length one)
  agree_behind =
      let front : take (length one) (one ++ more) ≡ one = take_at one more (length one) refl in
      record {
        long = whole_long;
        values = values_to;
        prepares = λ n above within. undecided_alike (take n (one ++ more)) (take n (other ++ more)) (both_to n above within);
        names = λ name n above within. named_alike (take n (one ++ more)) (take n (other ++ more)) name (both_to n above within);
        keys = λ key n above within. holder_alike (take n (one ++ more)) (take n (other ++ more)) key (both_to n above within);
        entries = entries_behind;
        decisions = λ p behind. decision_behind one other more p a.long (never_decided one p (follow_front NamesUndecided one more naming) behind) (never_decided other p also (omega (arith, a.long))) (entries_behind p behind);
        carried = λ p undecided. entries_carried p (sym (ap (λ (h : List Entry). is_undecided h p) front) ∙ undecided);
        carried_decisions = λ p undecided.
            let here : is_undecided one p ≡ true = sym (ap (λ (h : List Entry). is_undecided h p) front) ∙ undecided in
            decision_behind one other more p a.long (undecided_not_decided one p here) (undecided_not_decided other p (sym (a.same p) ∙ here)) (entries_carried p here);
        committed = committed_alike;
        cuts = cuts_to;
      }

-- ---- what a cut tells of the list up to its base

pub numbers_back : (history : List Entry) (ps : List ℕ) → map (λ (x : Carried). x.number) (map (carried_from history) ps) ≡ ps
numbers_back history [] = refl
numbers_back history (p ∷ ps) = ap (λ (qs : List ℕ). p ∷ qs) (numbers_back history ps)

first_or : Carried → List Carried → Carried
first_or x [] = x
first_or x (y ∷ ys) = y

rest_of : List Carried → List Carried
rest_of [] = []
rest_of (y ∷ ys) = ys

same_among : (f g : ℕ → Carried) (ps : List ℕ) (p : ℕ) → map f ps ≡ map g ps → list_any (λ k. eqb k p) ps ≡ true → f p ≡ g p
unfolding first_or rest_of
same_among f g [] p same h = absurd cc
same_among f g (q ∷ ps) p same h = elim (or_cases (eqb q p) (list_any (λ k. eqb k p) ps) h) [
  | inl here ↦ let is : q ≡ p = eqb-true q p here in subst (λ (r : ℕ). f r ≡ g r) is (ap (first_or (f q)) same)
  | inr there ↦ same_among f g ps p (ap rest_of same) there
]

pub prepare_whole : (at : Option Entry) → is_prepare at ≡ true → at ≡ Some (Prepare (prepared_name at) (prepared_batch at))
prepare_whole None is = absurd cc
prepare_whole (Some (Write batch)) is = absurd cc
prepare_whole (Some (Prepare name batch)) is = refl
prepare_whole (Some (Commit p)) is = absurd cc
prepare_whole (Some (Undo p batch)) is = absurd cc
prepare_whole (Some (Close p)) is = absurd cc

module _ (one other : List Entry) (same : carried_of one ≡ carried_of other) where
  numbers_same : undecided one ≡ undecided other
  numbers_same = sym (numbers_back one (undecided one)) ∙ ap (map (λ (x : Carried). x.number)) same ∙ numbers_back other (undecided other)

  pub carried_same : (p : ℕ) → is_undecided one p ≡ is_undecided other p
  carried_same p = sym (is_undecided_by_list one p) ∙ ap (list_any (λ k. eqb k p)) numbers_same ∙ is_undecided_by_list other p

  pub carried_prepares : (p : ℕ) → is_undecided one p ≡ true → entry_at one p ≡ entry_at other p
  carried_prepares p undecided_p =
      let maps : map (carried_from one) (undecided one) ≡ map (carried_from other) (undecided one) = same ∙ ap (map (carried_from other)) (sym numbers_same) in
      let it = same_among (carried_from one) (carried_from other) (undecided one) p maps (is_undecided_by_list one p ∙ undecided_p) in
      let name : prepared_name (entry_at one p) ≡ prepared_name (entry_at other p) = ap (λ (x : Carried). x.name) it in
      let batch : prepared_batch (entry_at one p) ≡ prepared_batch (entry_at other p) = ap (λ (x : Carried). x.batch) it in
      prepare_whole (entry_at one p) (undecided_prepared one p undecided_p)
      ∙ (λ i. Some (Prepare (name i) (batch i)))
      ∙ sym (prepare_whole (entry_at other p) (undecided_prepared other p (sym (carried_same p) ∙ undecided_p)))

pub cut_front_long : (history : List Entry) (c : Cut) → IsCut history c → length (take c.base history) ≡ c.base
cut_front_long history c cut = length-take-le c.base history cut.within

pub cut_whole : (history : List Entry) (c : Cut) → IsCut history c → history ≡ take c.base history ++ c.entries
cut_whole history c cut = sym (take-append-drop c.base history) ∙ ap (λ (h : List Entry). take c.base history ++ h) (sym (ap (λ (d : Cut). d.entries) cut.is))

pub alike_at_base : (one other : List Entry) (c : Cut) → IsCut one c → IsCut other c → AreAlike (take c.base one) (take c.base other)
alike_at_base one other c cut also =
    let same : carried_of (take c.base one) ≡ carried_of (take c.base other) = sym (ap (λ (d : Cut). d.carried) cut.is) ∙ ap (λ (d : Cut). d.carried) also.is in
    record {
      long = cut_front_long one c cut ∙ sym (cut_front_long other c also);
      same = carried_same (take c.base one) (take c.base other) same;
      prepares = carried_prepares (take c.base one) (take c.base other) same;
      undone = cut.whole ∙ sym also.whole;
    }

pub cuts_agree : (one other : List Entry) (c : Cut) → AreNaming one → AreNaming other → IsCut one c → IsCut other c → HaveSameValues one other c.base → AgreeFrom one other c.base
cuts_agree one other c naming also cut cut_too values =
    let whole = cut_whole one c cut in
    let whole_too = cut_whole other c cut_too in
    let front : AreNaming (take c.base other) = follow_front NamesUndecided (take c.base other) c.entries (subst AreNaming whole_too also) in
    let agree : AgreeFrom (take c.base one ++ c.entries) (take c.base other ++ c.entries) (length (take c.base one)) = agree_behind (take c.base one) (take c.base other) c.entries (alike_at_base one other c cut cut_too) (subst AreNaming whole naming) front values in
    subst (AgreeFrom one other) (cut_front_long one c cut)
    (subst (λ (h : List Entry). AgreeFrom h other (length (take c.base one))) (sym whole)
    (subst (λ (h : List Entry). AgreeFrom (take c.base one ++ c.entries) h (length (take c.base one))) (sym whole_too) agree))
