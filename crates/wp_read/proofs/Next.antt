-- The next key that the store has a version of passes over no row.
use Rattle.std.proofs.Common.{◌≡◌, ◌⊎◌, inl, inr, ℕ, Bool, true, false, true≢false, Less, Equal, Greater, List, [], ◌∷◌, Option, Some, None, refl, sym, subst, ap, ◌∙◌}
use Rattle.std.specs.Prelude.{Result, Ok, Err, IfOk, IfSome, OnOk}
use Rattle.std.specs.Option.{option_map}
use Rattle.std.specs.Ordering.{is_gt, is_le, ordering_reverse}
use Rattle.std.specs.declared.cmp.Ordering.{Ordering}
use Rattle.std.proofs.lemmas.Cmp.{nat_list_cmp_total}
use Rattle.wp_model.specs.declared.entry.Entry.{Entry}
use Rattle.wp_model.specs.Batch.{key_cmp}
use Rattle.wp_model.proofs.Ordered.{IsLess, from_is}
use Rattle.wp_model.specs.declared.version.Version.{Version}
use Rattle.wp_model.specs.History.{value_at}
use Rattle.wp_model.specs.Rows.{is_from, next_key, next_version}
use Rattle.wp_core.specs.Lists.{IsIn}
use Rattle.wp_core.specs.Reading.{Registration}
use Rattle.wp_core.specs.States.{StoreState, all_in}
use Rattle.wp_core.specs.World.{World}
use Rattle.wp_merge.specs.Merge.{sorted_of}
use Rattle.wp_merge.proofs.Sorted.{in_order_sorted, at_sorted}
use Rattle.wp_parts.specs.Stock.{StockState, store_state}
use Rattle.wp_shared.specs.Seats.{SharedState, SeatState, Stands}
use Rattle.wp_store.specs.Store.{newest_of, AreWords}
use Rattle.wp_store.proofs.NextKey.{next_is_least, has_word}
use Rattle.wp_store.proofs.NextVersion.{next_alone}
use Rattle.wp_read.specs.Rows.{HasNoRow, HasWords, IsBefore, SkipsNoRow}
use Rattle.wp_read.specs.Values.{ShowsValue}
use Rattle.wp_read.specs.declared.values.TheConstants.{FIRST_COPIES}
use Rattle.wp_read.proofs.Shows.{has_version, shows_value}

-- what is copied of the store: the next key, with its newest version alone
abbrev pub IsNextOf : StoreState → (above : Bool) → List ℕ → Option (List ℕ × List Version) → Type 0
IsNextOf store above key found = found ≡ option_map (λ v. (v.key, v ∷ [])) (next_version above key (sorted_of (all_in store)))

key_of : (o : Option Version) → option_map (λ (v : Version). v.key) o ≡ option_map (λ (next : List ℕ × List Version). next.0) (option_map (λ (v : Version). (v.key, v ∷ [])) o)
key_of None = refl
key_of (Some v) = refl

key_is : (store : StoreState) (above : Bool) (key : List ℕ) (found : Option (List ℕ × List Version)) → IsNextOf store above key found → next_key above key (sorted_of (all_in store)) ≡ option_map (λ (next : List ℕ × List Version). next.0) found
key_is store above key found is = key_of (next_version above key (sorted_of (all_in store))) ∙ ap (option_map (λ (next : List ℕ × List Version). next.0)) (sym is)

same_next : (next other : List ℕ × List Version) → Some next ≡ Some other → next ≡ other
same_next next other e = cc

none_next : (next : List ℕ × List Version) → Some next ≡ None → ⊥
none_next next e = absurd cc

newest_is : (store : StoreState) (above : Bool) (key : List ℕ) (next : List ℕ × List Version) → IsNextOf store above key (Some next) → next.1 ≡ newest_of FIRST_COPIES next.0 (sorted_of (all_in store))
newest_is store above key next is = by (next_version above key (sorted_of (all_in store))) refl is
  where
    by : (o : Option Version) → next_version above key (sorted_of (all_in store)) ≡ o → Some next ≡ option_map (λ (v : Version). (v.key, v ∷ [])) o → next.1 ≡ newest_of FIRST_COPIES next.0 (sorted_of (all_in store))
    by None there e = absurd (none_next next e)
    by (Some v) there e = subst (λ (pair : List ℕ × List Version). pair.1 ≡ newest_of FIRST_COPIES pair.0 (sorted_of (all_in store))) (sym (same_next next (v.key, v ∷ []) e)) (sym (next_alone above key (sorted_of (all_in store)) v there))

module _ {D : Type 0} (z : SharedState D) (s : SeatState) (stock : StockState) (above : Bool) (key : List ℕ) (took : (w : World) × Stands z s w × (w.store ≡ store_state stock)) where
  skips_none : (r : Registration) → IsIn r s.knows.participant.registered → (found : Option (List ℕ)) → next_key above key (sorted_of (all_in took.0.store)) ≡ found → SkipsNoRow s.knows.participant.seen r.number above key found
  skips_none r mine found is = λ other from before. by other from before (value_at s.knows.participant.seen other r.number) refl
    where
      by : (other : List ℕ) → is_from above key other ≡ true → IsBefore other found → (o : Option (List ℕ)) → value_at s.knows.participant.seen other r.number ≡ o → value_at s.knows.participant.seen other r.number ≡ None
      by other from before None e = e
      by other from before (Some value) e =
          let all = all_in took.0.store in
          let has = has_version z s took.0 other r 0 took.1 mine value e in
          let up = (next_is_least above key (sorted_of all) (in_order_sorted all)).least other from (has.0, has.1, at_sorted all other has.0 ∙ has.2) in
          absurd (up.2 (subst (IsBefore other) (sym is ∙ up.1) before))

  in_stock : (found : Option (List ℕ × List Version)) → IsNextOf (store_state stock) above key found → IsNextOf took.0.store above key found
  in_stock found is = subst (λ (x : StoreState). IsNextOf x above key found) (sym took.2) is

  pub next_skips : {E : Type 0} (result : Result (Option (List ℕ × List Version)) E) → IfOk result (IsNextOf (store_state stock) above key) → IfOk result (λ found. (r : Registration) → IsIn r s.knows.participant.registered → SkipsNoRow s.knows.participant.seen r.number above key (option_map (λ (next : List ℕ × List Version). next.0) found))
  next_skips (Ok found) is = λ (r : Registration) (mine : IsIn r s.knows.participant.registered). skips_none r mine (option_map (λ (next : List ℕ × List Version). next.0) found) (key_is took.0.store above key found (in_stock found is))
  next_skips (Err error) is = is

  pub next_from : {E : Type 0} (result : Result (Option (List ℕ × List Version)) E) → IfOk result (IsNextOf (store_state stock) above key) → IfOk result (λ found. IfSome found (λ next. is_from above key next.0 ≡ true))
  next_from (Ok None) is = tt
  next_from (Ok (Some next)) is = let all = all_in (store_state stock) in ((next_is_least above key (sorted_of all) (in_order_sorted all)).there next.0 (key_is (store_state stock) above key (Some next) is)).0
  next_from (Err error) is = is

  pub next_shows : {E : Type 0} (result : Result (Option (List ℕ × List Version)) E) → IfOk result (IsNextOf (store_state stock) above key)
      → IfOk result (λ found. IfSome found (λ next. (r : Registration) → IsIn r s.knows.participant.registered → ShowsValue s.knows.participant.seen next.0 r.number FIRST_COPIES next.1))
  next_shows (Ok None) is = tt
  next_shows (Ok (Some next)) is = λ (r : Registration) (mine : IsIn r s.knows.participant.registered).
      subst (ShowsValue s.knows.participant.seen next.0 r.number FIRST_COPIES) (sym (newest_is took.0.store above key next (in_stock (Some next) is))) (shows_value z s took.0 next.0 r FIRST_COPIES took.1 mine)
  next_shows (Err error) is = is

  pub next_words : {X E : Type 0} (result : Result X E) → AreWords (sorted_of (all_in (store_state stock))) → OnOk result ((r : Registration) → IsIn r s.knows.participant.registered → HasWords s.knows.participant.seen r.number)
  next_words (Ok found) is = λ (r : Registration) (mine : IsIn r s.knows.participant.registered) key value e.
      let all = all_in took.0.store in
      let words = subst (λ (x : StoreState). AreWords (sorted_of (all_in x))) (sym took.2) is in
      let has = has_version z s took.0 key r 0 took.1 mine value e in
      has_word (sorted_of all) key has.0 has.1 words (at_sorted all key has.0 ∙ has.2)
  next_words (Err error) is = tt

-- ---- the end of the range

before_end : (key to other : List ℕ) → is_gt (key_cmp key to) ≡ true → is_from false other to ≡ true → IsLess other key
before_end key to other past within = by (from_is false other to within)
  where
    less : IsLess to key
    less = nat_list_cmp_total.antisymm to key ∙ ap ordering_reverse (greater_of (key_cmp key to) past)
      where
        greater_of : (o : Ordering) → is_gt o ≡ true → o ≡ Greater
        greater_of Less e = absurd (true≢false (sym e))
        greater_of Equal e = absurd (true≢false (sym e))
        greater_of Greater e = refl

    by : IsLess other to ⊎ (other ≡ to) → IsLess other key
    by (inl first) = nat_list_cmp_total.trans other to key first less
    by (inr same) = ap (λ (k : List ℕ). key_cmp k key) same ∙ less

-- behind the end no row of the range is left
pub none_in_range : (history : List Entry) (n : ℕ) (above : Bool) (at to key : List ℕ) → SkipsNoRow history n above at (Some key) → is_gt (key_cmp key to) ≡ true → HasNoRow history n above at to
none_in_range history n above at to key skips past = λ other within. skips other within.0 (before_end key to other past within.1)

pub up_to_end : (key to : List ℕ) → is_gt (key_cmp key to) ≡ false → is_from false key to ≡ true
up_to_end key to within = by (key_cmp key to) within
  where
    by : (o : Ordering) → is_gt o ≡ false → is_le o ≡ true
    by Less e = refl
    by Equal e = refl
    by Greater e = absurd (true≢false e)

-- ---- what was found

pub some_not_none : {X : Type 0} (x : X) → Some x ≡ None → ⊥
some_not_none x e = absurd cc

module _ (history : List Entry) (n : ℕ) (above : Bool) (key : List ℕ) (found : Option (List ℕ × List Version)) (skips : SkipsNoRow history n above key (option_map (λ (next : List ℕ × List Version). next.0) found)) where
  -- nothing: the range has no row
  pub none_left : (to : List ℕ) → found ≡ None → HasNoRow history n above key to
  none_left to none = λ other within. subst (λ (o : Option (List ℕ × List Version)). SkipsNoRow history n above key (option_map (λ (next : List ℕ × List Version). next.0) o)) none skips other within.0 tt

  -- a key: none is passed over before it
  pub skips_to : (next : List ℕ) (newest : List Version) → found ≡ Some (next, newest) → SkipsNoRow history n above key (Some next)
  skips_to next newest is = subst (λ (o : Option (List ℕ × List Version)). SkipsNoRow history n above key (option_map (λ (next : List ℕ × List Version). next.0) o)) is skips
