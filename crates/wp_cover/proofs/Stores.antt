-- What is left under keys, and when two maps have the same.
use Rattle.std.proofs.Common.{◌≡◌, ℕ, suc, ◌+◌, ◌-◌, ◌<◌, ◌≤◌, Bool, true, false, ◌&&◌, cond, min, List, [], ◌∷◌, ◌++◌, length, map, get_or, take, drop, drop-cons, Bor, Option, Some, None, Less, Equal, Greater, refl, sym, ap, ◌∙◌, subst, inl, inr, arith}
use Rattle.std.specs.Prelude.{unwrap_or, is_some}
use Rattle.std.specs.List.{AllByRecursion}
use Rattle.std.specs.List.Sorted.{IsStrictlySortedBy}
use Rattle.std.specs.Option.{option_or, option_copied}
use Rattle.std.specs.declared.cmp.Ordering.{Ordering}
use Rattle.std.specs.Bool.{Decides}
use Rattle.std.specs.Str.{bytes_eq}
use Rattle.std.specs.Cmp.{eq_by_cmp_equiv, tied_itself}
use Rattle.std.specs.Cmp.Lexicographic.{pointwise}
use Rattle.std.specs.Ordering.{nat_cmp, is_eq, eq_by_cmp, ordering_reverse}
use Rattle.std.specs.Map.{lookup, keys_of}
use Rattle.std.specs.BTreeMap.{BTreeMap, IsOrdered, UpdatesBy, is_at, get}
use Rattle.std.proofs.lemmas.Bool.{and_parts, and_from, cases_lt}
use Rattle.std.proofs.lemmas.Cmp.{nat_list_cmp_total}
use Rattle.std.proofs.lemmas.List.{take_all, take_more, length-take-le, length-take, get_or-take}
use Rattle.std.proofs.lemmas.Map.{lookup-none}
use Rattle.std.proofs.lemmas.Map.Keys.{sorted_tail, IsDistinct-from_sorted}
use Rattle.std.proofs.lemmas.Map.Entries.{lookup_head, lookup_tail, none_past_head, none_below_head}
use Rattle.std.proofs.lemmas.Map.Lookups.{exact_bytes}
use Rattle.std.proofs.lemmas.Map.Text.{is_eq-slice_cmp, btree_map_updates_str}
use Rattle.std.proofs.lemmas.Slice.Eq.{bytes_eq-Decides, slice_eq-Decides}
use Rattle.wp_model.specs.declared.change.Change.{Change}
use Rattle.wp_model.specs.declared.entry.Entry.{Entry}
use Rattle.wp_model.specs.Batch.{key_cmp, key_of, value_of, change_to}
use Rattle.wp_model.specs.History.{changes_of, newest, value_at, decides}
use Rattle.wp_model.specs.Legal.{IsLegal}
use Rattle.wp_history.specs.History as ledger
use Rattle.wp_history.proofs.Full.{later_at}
use Rattle.wp_cover.specs.Decisions.{decider_of, HasDeciders}
use Rattle.wp_cover.specs.Store.{Store, IsStore, Leaves, LeavesChanges, under}
use Rattle.wp_cover.proofs.Based.{behind_long}
use Rattle.wp_cover.proofs.HistoryLemmas.{decider_next, value_more}

-- ---- one key more

-- as their keys compare
abbrev pub borrowed_cmp : Bor (List ℕ) → Bor (List ℕ) → Ordering
borrowed_cmp k q = key_cmp k.now q.now

copied_cond : (b : Bool) (v o : Option (Bor (List ℕ))) → option_copied (cond b v o) ≡ cond b (option_copied v) (option_copied o)
copied_cond true v o = refl
copied_cond false v o = refl

pub leaves : (key : List ℕ) (value : Option (Bor (List ℕ))) (old new : Store) → UpdatesBy borrowed_cmp (λ k. key_cmp key k.now) old new value → IsOrdered borrowed_cmp new → Leaves key (option_copied value) old new
leaves key value old new updates ordered values had = record {
  ordered = ordered;
  each = λ other.
      ap option_copied (btree_map_updates_str key old new value updates other)
      ∙ copied_cond (bytes_eq key other) value (under old other)
      ∙ ap (cond (bytes_eq key other) (option_copied value)) (had.each other);
}

pub leaves_same : (k key : List ℕ) (w value : Option (List ℕ)) (old new : Store) → k ≡ key → w ≡ value → Leaves k w old new → Leaves key value old new
leaves_same k key w value old new keys values left = subst (λ (v : Option (List ℕ)). Leaves key v old new) values (subst (λ (q : List ℕ). Leaves q w old new) keys left)

pub as_values : (f g : List ℕ → Option (List ℕ)) (store : Store) → ((key : List ℕ) → f key ≡ g key) → IsStore f store → IsStore g store
as_values f g store same had = record { ordered = had.ordered; each = λ key. had.each key ∙ same key }

nothing_ordered : IsStrictlySortedBy borrowed_cmp []
unfolding IsStrictlySortedBy
nothing_ordered = tt

pub none_left : (store : Store) → store.entries ≡ [] → IsStore (λ key. None) store
none_left store none = record {
  ordered = subst (λ (es : List (Bor (List ℕ) × Bor (List ℕ))). IsStrictlySortedBy borrowed_cmp (keys_of es)) (sym none) nothing_ordered;
  each = λ key. ap (λ (es : List (Bor (List ℕ) × Bor (List ℕ))). option_copied (lookup (is_at (λ (k : Bor (List ℕ)). key_cmp key k.now)) es)) none;
}

-- ---- the changes of a batch, the last one first

over : (b : Bool) (v : Option (List ℕ)) (x : Option (Option (List ℕ))) (y : Option (List ℕ)) → cond b v (unwrap_or x y) ≡ unwrap_or (cond b (Some v) x) y
over true v x y = refl
over false v x y = refl

pub leaves_more : (changes : List Change) (i j : ℕ) (change : Change) (old store new : Store) → i ≡ j + 1 → j < length changes → change ≡ get_or changes j change → LeavesChanges (drop i changes) old store → Leaves (key_of change) (value_of change) store new → LeavesChanges (drop j changes) old new
leaves_more changes i j change old store new next lt is before one =
    subst (λ (cs : List Change). LeavesChanges cs old new) (sym split) (λ values had. as_values _ _ new (λ key. over (bytes_eq (key_of change) key) (value_of change) (change_to (drop i changes) key) (values key)) (one _ (before values had)))
  where
    split : drop j changes ≡ change ∷ drop i changes
    split = drop-cons changes j change lt ∙ (λ k. sym is k ∷ drop (at k) changes)
      where
        at : suc j ≡ i
        at = omega (arith, next)

-- ---- entry by entry

pub store_more : (history : List Entry) (i : ℕ) (here : Entry) (changes : List Change) (store new : Store) → IsLegal history → i < length history → here ≡ get_or history i here → changes ≡ changes_of history here → IsStore (λ key. value_at history key i) store → LeavesChanges changes store new → IsStore (λ key. value_at history key (i + 1)) new
store_more history i here changes store new legal lt is its had left =
    as_values _ _ new (λ key. ap (λ (cs : List Change). unwrap_or (change_to cs key) (value_at history key i)) its ∙ sym (value_more history key i here legal lt is)) (left _ had)

-- the same over the first m of the entries behind a base
pub store_behind : (history later first : List Entry) (base m i : ℕ) (here : Entry) (changes : List Change) (store new : Store) → IsLegal history → later ≡ drop base history → base ≤ length history → first ≡ take m later → i < length first → here ≡ get_or first i here → changes ≡ changes_of history here
    → IsStore (λ key. value_at history key (base + i)) store → LeavesChanges changes store new → IsStore (λ key. value_at history key (base + (i + 1))) new
store_behind history later first base m i here changes store new legal behind within front lt is its had left =
    let few : length first ≡ min m (length later) = ap (λ (h : List Entry). length h) front ∙ length-take m later in
    let long = behind_long history later base behind in
    let there : here ≡ get_or later i here = is ∙ ap (λ (h : List Entry). get_or h i here) front ∙ get_or-take m later i here (omega arith) in
    let same : here ≡ get_or history (base + i) here = later_at history base i later here behind there in
    subst (λ (n : ℕ). IsStore (λ key. value_at history key n) new) (let e : base + i + 1 ≡ base + (i + 1) = omega arith in e)
    (store_more history (base + i) here changes store new legal (omega (arith, long, within)) same its had left)

-- all of them, up to the number, or to the last
pub store_whole : (history first later : List Entry) (base n last i : ℕ) (store : Store) → base ≤ n → base ≤ length history → later ≡ drop base history → last ≡ min n (length history) → first ≡ take (last - base) later → i ≡ length first
    → IsStore (λ key. value_at history key (base + i)) store → IsStore (λ key. value_at history key n) store
store_whole history first later base n last i store from within behind is front at had =
    let long = behind_long history later base behind in
    let few : length first ≡ min (last - base) (length later) = ap (λ (h : List Entry). length h) front ∙ length-take (last - base) later in
    elim (cases_lt (length history) n) [
      | inl past ↦
          let end : base + i ≡ length history = omega (arith, few, long, is, past, within, at) in
          as_values _ _ store (λ key. ap (λ (m : ℕ). value_at history key m) end ∙ ap (λ (h : List Entry). newest h key) (take_all (length history) history (omega arith) ∙ sym (take_all n history (omega (arith, past))))) had
      | inr le ↦
          let end : base + i ≡ n = omega (arith, few, long, is, le, from, at) in
          subst (λ (m : ℕ). IsStore (λ key. value_at history key m) store) end had
    ]

-- ---- two maps, by the entries that they borrow

abbrev pub Pair : Type 0
Pair = Bor (List ℕ) × Bor (List ℕ)

abbrev pub Seen : Type 0
Seen = List ℕ × List ℕ

abbrev see : Pair → Seen
see e = (e.0.now, e.1.now)

abbrev pub find : List Seen → List ℕ → Option (List ℕ)
find es q = lookup (is_at (key_cmp q)) es

seen_get : (es : List Pair) (key : List ℕ) → find (map see es) key ≡ option_copied (lookup (is_at (λ (k : Bor (List ℕ)). key_cmp key k.now)) es)
seen_get [] key = refl
seen_get (e ∷ es) key =
    ap (cond (is_at (key_cmp key) e.0.now) (Some e.1.now)) (seen_get es key)
    ∙ sym (copied_cond (is_at (key_cmp key) e.0.now) (Some e.1) (lookup (is_at (λ (k : Bor (List ℕ)). key_cmp key k.now)) es))

seen_behind : (k : Bor (List ℕ)) (es : List Pair) → AllByRecursion (λ q. borrowed_cmp k q ≡ Less) (keys_of es) → AllByRecursion (λ q. key_cmp k.now q ≡ Less) (keys_of (map see es))
seen_behind k [] behind = tt
seen_behind k (e ∷ es) behind = (behind.0, seen_behind k es behind.1)

seen_ordered : (es : List Pair) → IsStrictlySortedBy borrowed_cmp (keys_of es) → IsStrictlySortedBy key_cmp (keys_of (map see es))
unfolding IsStrictlySortedBy
seen_ordered [] ordered = tt
seen_ordered (e ∷ es) ordered = (seen_behind e.0 es ordered.0, seen_ordered es ordered.1)

seen_equal : (es fs : List Pair) → pointwise (λ (p q : Pair). bytes_eq p.0.now q.0.now && bytes_eq p.1.now q.1.now) es fs ≡ pointwise (λ (p q : Seen). bytes_eq p.0 q.0 && bytes_eq p.1 q.1) (map see es) (map see fs)
seen_equal [] [] = refl
seen_equal [] (f ∷ fs) = refl
seen_equal (e ∷ es) [] = refl
seen_equal (e ∷ es) (f ∷ fs) = ap (λ (b : Bool). (bytes_eq e.0.now f.0.now && bytes_eq e.1.now f.1.now) && b) (seen_equal es fs)

pairs_decide : (p q : Seen) → Decides (bytes_eq p.0 q.0 && bytes_eq p.1 q.1) (p ≡ q)
pairs_decide p q = (
  λ e. let parts = and_parts (bytes_eq p.0 q.0) (bytes_eq p.1 q.1) e in λ i. ((bytes_eq-Decides p.0 q.0).0 parts.0 i, (bytes_eq-Decides p.1 q.1).0 parts.1 i),
  λ e. and_from (bytes_eq p.0 q.0) (bytes_eq p.1 q.1) ((bytes_eq-Decides p.0 q.0).1 (ap (λ (u : Seen). u.0) e)) ((bytes_eq-Decides p.1 q.1).1 (ap (λ (u : Seen). u.1) e)),
)

-- ---- keys in order: equal look-ups give equal entries

abbrev pub AreOrdered : List Seen → Type 0
AreOrdered es = IsStrictlySortedBy key_cmp (keys_of es)

some_none : (v : List ℕ) → Some v ≡ None → ⊥
some_none v e = absurd cc

at_head : (x : Seen) (xs : List Seen) → find (x ∷ xs) x.0 ≡ Some x.1
at_head x xs = lookup_head (is_at (key_cmp x.0)) x xs (ap is_eq (tied_itself nat_list_cmp_total x.0))

past_head : (q : List ℕ) (x : Seen) (xs : List Seen) → AreOrdered (x ∷ xs) → eq_by_cmp key_cmp q x.0 ≡ true → find xs q ≡ None
past_head q x xs s t = lookup-none (is_at (key_cmp q)) xs (none_past_head (eq_by_cmp_equiv nat_list_cmp_total) q x xs (IsDistinct-from_sorted key_cmp (keys_of (x ∷ xs)) s) t)

module _ (x y : Seen) (xs ys : List Seen) (s : AreOrdered (x ∷ xs)) (t : AreOrdered (y ∷ ys)) (h : (q : List ℕ) → find (x ∷ xs) q ≡ find (y ∷ ys) q) where
  by_heads : (r : Ordering) → key_cmp x.0 y.0 ≡ r → key_cmp x.0 y.0 ≡ Equal
  by_heads Less p = absurd (some_none x.1 (sym (at_head x xs) ∙ h x.0 ∙ lookup-none (is_at (key_cmp x.0)) (y ∷ ys) (none_below_head nat_list_cmp_total x.0 y ys t p)))
  by_heads Equal p = p
  by_heads Greater p = absurd (some_none y.1 (sym (at_head y ys) ∙ sym (h y.0) ∙ lookup-none (is_at (key_cmp y.0)) (x ∷ xs) (none_below_head nat_list_cmp_total y.0 x xs s (nat_list_cmp_total.antisymm y.0 x.0 ∙ ap ordering_reverse p))))

  same_keys : x.0 ≡ y.0
  same_keys = exact_bytes x.0 y.0 (by_heads (key_cmp x.0 y.0) refl)

  same_values : x.1 ≡ y.1
  same_values = ap (λ (u : Option (List ℕ)). unwrap_or u x.1) (sym (at_head x xs) ∙ h x.0 ∙ ap (find (y ∷ ys)) same_keys ∙ at_head y ys)

  same_tails : (q : List ℕ) → find xs q ≡ find ys q
  same_tails q = by (eq_by_cmp key_cmp q x.0) refl
    where
      by : (b : Bool) → eq_by_cmp key_cmp q x.0 ≡ b → find xs q ≡ find ys q
      by true e = past_head q x xs s e ∙ sym (past_head q y ys t (ap (eq_by_cmp key_cmp q) (sym same_keys) ∙ e))
      by false e = sym (lookup_tail (is_at (key_cmp q)) x xs e) ∙ h q ∙ lookup_tail (is_at (key_cmp q)) y ys (ap (eq_by_cmp key_cmp q) (sym same_keys) ∙ e)

same_entries : (es fs : List Seen) → AreOrdered es → AreOrdered fs → ((q : List ℕ) → find es q ≡ find fs q) → es ≡ fs
same_entries [] [] s t h = refl
same_entries [] (y ∷ ys) s t h = absurd (some_none y.1 (sym (h y.0 ∙ at_head y ys)))
same_entries (x ∷ xs) [] s t h = absurd (some_none x.1 (sym (at_head x xs) ∙ h x.0))
same_entries (x ∷ xs) (y ∷ ys) s t h =
    let rest = same_entries xs ys (sorted_tail key_cmp x.0 (keys_of xs) s) (sorted_tail key_cmp y.0 (keys_of ys) t) (same_tails x y xs ys s t h) in
    λ i. (same_keys x y xs ys s t h i, same_values x y xs ys s t h i) ∷ rest i

pub same_stores : (f g : List ℕ → Option (List ℕ)) (a b : Store) (r : Bool) → IsStore f a → IsStore g b → r ≡ pointwise (λ (p q : Bor (List ℕ) × Bor (List ℕ)). bytes_eq p.0.now q.0.now && bytes_eq p.1.now q.1.now) a.entries b.entries → Decides r ((key : List ℕ) → f key ≡ g key)
same_stores f g a b r first second e =
    let decides = slice_eq-Decides pairs_decide (map see a.entries) (map see b.entries) r (e ∙ seen_equal a.entries b.entries) in (
      λ yes key.
          sym (first.each key) ∙ sym (seen_get a.entries key)
          ∙ ap (λ (es : List Seen). find es key) (decides.0 yes)
          ∙ seen_get b.entries key ∙ second.each key,
      λ same.
          decides.1 (same_entries (map see a.entries) (map see b.entries) (seen_ordered a.entries first.ordered) (seen_ordered b.entries second.ordered)
          (λ key. seen_get a.entries key ∙ first.each key ∙ same key ∙ sym (second.each key) ∙ sym (seen_get b.entries key))),
    )

-- ---- a map that is copied, key by key

bytes_back : (a b : List ℕ) → bytes_eq a b ≡ bytes_eq b a
bytes_back a b = sym (is_eq-slice_cmp a b) ∙ (eq_by_cmp_equiv nat_list_cmp_total).symm a b ∙ is_eq-slice_cmp b a

at_bytes : (key k : List ℕ) → is_at (key_cmp key) k ≡ bytes_eq k key
at_bytes key k = is_eq-slice_cmp key k ∙ bytes_back key k

-- what the values are, but for the keys that are left
abbrev pub but_left : List Seen → (List ℕ → Option (List ℕ)) → List ℕ → Option (List ℕ)
but_left left values key = cond (is_some (find left key)) None (values key)

-- what is left has these values, under keys in order
pub record AreLeft (left : List Seen) (values : List ℕ → Option (List ℕ)) : Type 0 where
  pub ordered : AreOrdered left
  pub each : (key value : List ℕ) → find left key ≡ Some value → values key ≡ Some value

module _ (values : List ℕ → Option (List ℕ)) where
  pub all_left : (base : BTreeMap (List ℕ) (List ℕ)) (left : List Seen) → ledger.IsStore values base → left ≡ base.entries → AreLeft left values
  all_left base left had is = subst (λ (es : List Seen). AreLeft es values) (sym is) (record { ordered = had.ordered; each = λ key value found. sym (had.each key) ∙ found })

  pub none_copied : (base : BTreeMap (List ℕ) (List ℕ)) (left : List Seen) (store : Store) → ledger.IsStore values base → left ≡ base.entries → store.entries ≡ [] → IsStore (but_left left values) store
  none_copied base left store had is none = subst (λ (es : List Seen). IsStore (but_left es values) store) (sym is) (as_values _ _ store (λ key. nothing key (find base.entries key) refl) (none_left store none))
    where
      nothing : (key : List ℕ) (o : Option (List ℕ)) → find base.entries key ≡ o → None ≡ cond (is_some (find base.entries key)) None (values key)
      nothing key None e = sym (ap (λ (b : Bool). cond b None (values key)) (ap is_some e) ∙ sym (had.each key) ∙ e)
      nothing key (Some v) e = sym (ap (λ (b : Bool). cond b None (values key)) (ap is_some e))

  module _ (k v : List ℕ) (rest : List Seen) (are : AreLeft ((k, v) ∷ rest) values) where
    gone : (key : List ℕ) → is_at (key_cmp key) k ≡ true → find rest key ≡ None
    gone key here = past_head key (k, v) rest are.ordered here

    others_left : (key value : List ℕ) (b : Bool) → is_at (key_cmp key) k ≡ b → find rest key ≡ Some value → values key ≡ Some value
    others_left key value true e found = absurd (some_none value (sym found ∙ gone key e))
    others_left key value false e found = are.each key value (ap (λ (b : Bool). cond b (Some v) (find rest key)) e ∙ found)

    fewer_left : AreLeft rest values
    fewer_left = record { ordered = sorted_tail key_cmp k (keys_of rest) are.ordered; each = λ key value found. others_left key value (is_at (key_cmp key) k) refl found }

    one_less : (key : List ℕ) (b : Bool) → is_at (key_cmp key) k ≡ b → cond (bytes_eq k key) (Some v) (but_left ((k, v) ∷ rest) values key) ≡ but_left rest values key
    one_less key true e =
        ap (λ (b : Bool). cond b (Some v) (but_left ((k, v) ∷ rest) values key)) (sym (at_bytes key k) ∙ e)
        ∙ sym (are.each key v (ap (λ (b : Bool). cond b (Some v) (find rest key)) e))
        ∙ sym (ap (λ (o : Option (List ℕ)). cond (is_some o) None (values key)) (gone key e))
    one_less key false e =
        ap (λ (b : Bool). cond b (Some v) (but_left ((k, v) ∷ rest) values key)) (sym (at_bytes key k) ∙ e)
        ∙ ap (λ (b : Bool). cond (is_some (cond b (Some v) (find rest key))) None (values key)) e

    one_copied : (store new : Store) → IsStore (but_left ((k, v) ∷ rest) values) store → Leaves k (Some v) store new → IsStore (but_left rest values) new
    one_copied store new had left = as_values _ _ new (λ key. one_less key (is_at (key_cmp key) k) refl) (left _ had)

  -- the next one is copied
  pub record IsNext (rest : List Seen) (new : Store) : Type 0 where
    pub left : AreLeft rest values
    pub has : IsStore (but_left rest values) new

  pub copied_next : (left rest : List Seen) (k v : List ℕ) (store new : Store) → left ≡ (k, v) ∷ rest → AreLeft left values → IsStore (but_left left values) store → Leaves k (Some v) store new → IsNext rest new
  copied_next left rest k v store new is are had leaves_one =
      let first = subst (λ (es : List Seen). AreLeft es values) is are in
      record { left = fewer_left k v rest first; has = one_copied k v rest first store new (subst (λ (es : List Seen). IsStore (but_left es values) store) is had) leaves_one }

  pub all_copied : (left : List Seen) (store : Store) → left ≡ [] → IsStore (but_left left values) store → IsStore values store
  all_copied left store none had = subst (λ (es : List Seen). IsStore (but_left es values) store) none had

-- ---- deciders

-- what is noted with the entry, which has that number
abbrev pub Notes : Entry → ℕ → BTreeMap ℕ ℕ → BTreeMap ℕ ℕ → Type 0
Notes entry number old new = (p : ℕ) → get nat_cmp new p ≡ option_or (get nat_cmp old p) (cond (decides p entry) (Some number) None)

pub deciders_more : (entries : List Entry) (i : ℕ) (here : Entry) (old new : BTreeMap ℕ ℕ) → i < length entries → here ≡ get_or entries i here → HasDeciders (take i entries) old → Notes here (i + 1) old new → HasDeciders (take (i + 1) entries) new
deciders_more entries i here old new lt is had notes p =
    notes p
    ∙ (λ k. option_or (had p k) (cond (decides p here) (Some (number k)) None))
    ∙ sym (decider_next (take i entries) here p)
    ∙ ap (λ (es : List Entry). decider_of es p) (sym (take_more entries i here lt ∙ ap (λ (e : Entry). take i entries ++ e ∷ []) (sym is)))
  where
    number : i + 1 ≡ suc (length (take i entries))
    number = omega (arith, length-take-le i entries (omega arith))

-- the same behind a base
pub deciders_behind : (history later : List Entry) (base i number : ℕ) (here : Entry) (old new : BTreeMap ℕ ℕ) → later ≡ drop base history → base ≤ length history → i < length later → here ≡ get_or later i here → number ≡ base + i + 1 → HasDeciders (take (base + i) history) old → Notes here number old new → HasDeciders (take (base + (i + 1)) history) new
deciders_behind history later base i number here old new behind within lt is due had notes =
    let long = behind_long history later base behind in
    subst (λ (n : ℕ). HasDeciders (take n history) new) (let e : base + i + 1 ≡ base + (i + 1) = omega arith in e)
    (deciders_more history (base + i) here old new (omega (arith, lt, long, within)) (later_at history base i later here behind is) had (subst (λ (n : ℕ). Notes here n old new) due notes))
