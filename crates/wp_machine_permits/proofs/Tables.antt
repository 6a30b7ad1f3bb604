-- What is in the states of the runs.
use Rattle.std.proofs.Common.{◌≡◌, ℕ, nat_le, ◌||◌, ◌&&◌, ◌==◌, not, Bool, true, false, true≢false, cond, List, [], ◌∷◌, ◌++◌, Option, Some, None, is_some, refl, sym, subst, ap, ◌∙◌, arith}
use Rattle.std.proofs.lemmas.Bool.Decides.{nat_tests}
use Rattle.std.proofs.lemmas.Slice.Eq.{bytes_eq-Decides}
use Rattle.std.specs.Str.{bytes_eq}
use Rattle.std.specs.Option.{option_map_or}
use Rattle.std.specs.Ordering.{nat_cmp, eq_by_cmp}
use Rattle.std.specs.Cmp.{nat_cmp_total}
use Rattle.std.specs.Cmp.Lexicographic.{nat_list_cmp_total}
use Rattle.std.specs.declared.cmp.Ordering.TheVariants.{Equal}
use Rattle.std.specs.FinSet as set
use Rattle.std.specs.FinSet.{nat_cmp-IsAntisymmetric}
use Rattle.std.specs.FinMap as finite
use Rattle.wp_model.specs.declared.change.Change.{Change}
use Rattle.wp_model.specs.declared.entry.Entry.{Entry}
use Rattle.wp_model.specs.declared.entry.Entry.TheVariants.{Prepare}
use Rattle.wp_model.specs.declared.version.Version.{Version}
use Rattle.wp_model.specs.declared.holder.Holder.TheVariants.{Txn}
use Rattle.wp_model.specs.Batch.{key_cmp, key_of, value_of, change_to}
use Rattle.wp_model.specs.Flushed.{versions_under}
use Rattle.wp_model.specs.History.{is_changed}
use Rattle.wp_model.specs.Legal.{changes_in}
use Rattle.wp_model.specs.LockState.{Keys}
use Rattle.wp_model.specs.PreparedSets.{PreparedSets, is_prepared}
use Rattle.wp_model.specs.Snapshots.{Snapshots, LiveSnapshot, IsLive, is_old_commit, after_register, after_keep}
use Rattle.wp_model.specs.Versions.{version_at}
use Rattle.wp_model.proofs.Numbers.{in_inserted, in_removed, get_inserted}
use Rattle.wp_core.specs.Changes.{placed, with_registered, with_old_commit}
use Rattle.wp_core.specs.Entries.{HasVersionsAt, transaction_of, changes_under}
use Rattle.wp_core.specs.Lists.{IsIn}
use Rattle.wp_core.specs.Sound.Prepared.{IsInOldCommits}
use Rattle.wp_core.specs.States.{with_moved}
use Rattle.wp_core.specs.Views.{Event}
use Rattle.wp_core.specs.Views as view
use Rattle.wp_core.specs.World.{Transaction, Transactions}
use Rattle.wp_machine.proofs.NameMaps as names
use Rattle.wp_model.proofs.Keyed.{at_inserted}
use Rattle.wp_model.proofs.Tests.{same_some, or_true}
use Rattle.wp_machine_permits.specs.Runs.{t, k, d, prepared, claimed, locked, whole, memory}

-- ---- nothing yet

abbrev pub no_numbers : set.FinSet nat_cmp
no_numbers = set.empty

abbrev pub no_keys : set.FinSet key_cmp
no_keys = set.empty

abbrev pub no_snapshots : Snapshots
no_snapshots = finite.empty

-- ---- keys, and the transaction

abbrev pub keys_then : Keys
keys_then = finite.insert finite.empty k (Txn t)

abbrev pub transactions_then : Transactions
transactions_then = finite.insert (finite.insert (finite.insert finite.empty t claimed) t locked) t whole

pub has_whole : finite.get transactions_then t ≡ Some whole
has_whole = at_inserted (finite.insert (finite.insert finite.empty t claimed) t locked) t whole t refl

-- a batch of one change changes its key alone
pub only_key : (change : Change) (key : List ℕ) → is_changed (change ∷ []) key ≡ true → key ≡ key_of change
only_key change key is = by (bytes_eq (key_of change) key) refl is
  where
    by : (b : Bool) → bytes_eq (key_of change) key ≡ b → is_some (cond b (Some (value_of change)) None) ≡ true → key ≡ key_of change
    by true e is = sym ((bytes_eq-Decides (key_of change) key).0 e)
    by false e is = absurd (true≢false (sym is))

pub k_held : (key : List ℕ) → key ≡ k → finite.get keys_then key ≡ Some (Txn t)
k_held key same = at_inserted finite.empty k (Txn t) key same

pub k_locked : (key : List ℕ) → key ≡ k → set.contains (set.insert no_keys k) key ≡ true
k_locked key same = ap (set.contains (set.insert no_keys k)) same ∙ set.contains-insert nat_list_cmp_total no_keys k k

pub d_free : finite.get keys_then d ≡ None
d_free = finite.get-insert nat_list_cmp_total finite.empty k (Txn t) d ∙ finite.get-empty key_cmp d

-- an entry of t, whose only key is k
pub of_t : (history : List Entry) (entry : Entry) → transaction_of history entry ≡ Some t → ((key : List ℕ) → is_changed (changes_under history entry) key ≡ true → key ≡ k) → (name : List ℕ) → transaction_of history entry ≡ Some name
    → (x : Transaction) × (finite.get transactions_then name ≡ Some x) × ((key : List ℕ) → is_changed (changes_under history entry) key ≡ true → (set.contains x.locked key ≡ true) × (finite.get keys_then key ≡ Some (Txn name)))
of_t history entry is only name e =
    let same : t ≡ name = same_some t name (sym is ∙ e) in
    subst (λ (n : List ℕ). (x : Transaction) × (finite.get transactions_then n ≡ Some x) × ((key : List ℕ) → is_changed (changes_under history entry) key ≡ true → (set.contains x.locked key ≡ true) × (finite.get keys_then key ≡ Some (Txn n)))) same
    (whole, has_whole, λ key changed. (k_locked key (only key changed), k_held key (only key changed)))

only_locked : (key : List ℕ) → set.contains (set.insert no_keys k) key ≡ true → key ≡ k
only_locked key has = by (eq_by_cmp key_cmp key k) refl (sym (set.contains-insert nat_list_cmp_total no_keys k key ∙ ap (λ (b : Bool). eq_by_cmp key_cmp key k || b) (set.contains-empty key_cmp key)) ∙ has)
  where
    by : (b : Bool) → eq_by_cmp key_cmp key k ≡ b → (b || false) ≡ true → key ≡ k
    by true same is = names.same_key key k same
    by false other is = absurd (true≢false (sym is))

abbrev name_in : Entry → List ℕ
name_in (Prepare name changes) = name
name_in other = []

-- who prepares t, and locked k, locked each of its keys itself
pub t_came : (past : List Event) → IsIn (view.locked k (Txn t)) past → (name : List ℕ) (changes : List Change) (x : Transaction) (key : List ℕ) → prepared ≡ Prepare name changes → finite.get transactions_then name ≡ Some x → set.contains x.locked key ≡ true → IsIn (view.locked key (Txn name)) past
t_came past did name changes x key is has in_it =
    let same : t ≡ name = ap name_in is in
    let whole_is : whole ≡ x = same_some whole x (sym (at_inserted (finite.insert (finite.insert finite.empty t claimed) t locked) t whole name (sym same)) ∙ has) in
    let only : key ≡ k = only_locked key (ap (λ (y : Transaction). set.contains y.locked key) whole_is ∙ in_it) in
    subst (λ (n : List ℕ). IsIn (view.locked key (Txn n)) past) same (subst (λ (y : List ℕ). IsIn (view.locked y (Txn t)) past) (sym only) did)

-- ---- versions

pick : {A : Type 0} (a x b : Bool) (u v w z : A) → x ≡ b → v ≡ cond b w z → cond (a && x) u v ≡ cond b (cond a u w) z
pick true true true u v w z same e = refl
pick true false true u v w z same e = absurd (true≢false (sym same))
pick true true false u v w z same e = absurd (true≢false same)
pick true false false u v w z same e = e
pick false x true u v w z same e = e
pick false x false u v w z same e = e

at_added : (n : ℕ) (changes : List Change) (before : List Version) (key : List ℕ) (p : ℕ) (b : Bool) → (n == p) ≡ b → (b ≡ true → version_at before key p ≡ None) → version_at (versions_under n changes ++ before) key p ≡ cond b (change_to changes key) (version_at before key p)
at_added n [] before key p true same none = none refl
at_added n [] before key p false same none = refl
at_added n (change ∷ changes) before key p b same none =
    pick (bytes_eq (key_of change) key) (n == p) b (Some (value_of change)) (version_at (versions_under n changes ++ before) key p) (change_to changes key) (version_at before key p) same (at_added n changes before key p b same none)

-- the versions of an entry in front, where there were none under its number
pub added : (n : ℕ) (entry : Entry) (before : List Version) → ((key : List ℕ) → version_at before key n ≡ None) → HasVersionsAt (Some entry) n before (versions_under n (changes_in entry) ++ before)
added n entry before none key p =
    at_added n (changes_in entry) before key p (n == p) refl (λ is. let same : n ≡ p = grind (arith, nat_tests) in subst (λ (q : ℕ). version_at before key q ≡ None) same (none key))
    ∙ ap (λ (b : Bool). cond b (change_to (changes_in entry) key) (version_at before key p)) (let q : (n == p) ≡ (p == n) = grind (arith, nat_tests) in q)

nothing : (b : Bool) (x : Option (List ℕ)) → cond (b && false) (Some x) None ≡ None
nothing true x = refl
nothing false x = refl

pub none_at_2 : (key : List ℕ) → version_at memory key 2 ≡ None
none_at_2 key = nothing (bytes_eq k key) (Some _)

pub none_at_3 : (key : List ℕ) → version_at memory key 3 ≡ None
none_at_3 key = nothing (bytes_eq k key) (Some _)

-- ---- prepared numbers

abbrev pub heap_then : set.FinSet nat_cmp
heap_then = set.insert no_numbers 1

neither : (b : Bool) → (not b && (b || false)) ≡ false
neither true = refl
neither false = refl

pub none_in_heap : (p : ℕ) → set.contains (set.remove heap_then 1) p ≡ false
none_in_heap p =
    set.contains-remove nat_cmp_total heap_then 1 p
    ∙ ap (λ (b : Bool). not (eq_by_cmp nat_cmp p 1) && b) (set.contains-insert nat_cmp_total no_numbers 1 p ∙ ap (λ (b : Bool). eq_by_cmp nat_cmp p 1 || b) (set.contains-empty nat_cmp p))
    ∙ neither (eq_by_cmp nat_cmp p 1)

alike : (test : ℕ → Bool) (q x : ℕ) → nat_cmp q x ≡ Equal → test x ≡ test q
alike test q x e = ap test (sym (nat_cmp-IsAntisymmetric q x e))

retained : (s : set.FinSet nat_cmp) (test : ℕ → Bool) (p : ℕ) → set.contains (set.retain s test) p ≡ (set.contains s p && test p)
retained s test p = set.contains-retain s test p (alike test p)

-- a number that is in no set, as the bound rises
pub still_out : (x : PreparedSets) (m p : ℕ) → set.contains x.heap p ≡ false → set.contains x.delayed p ≡ false → is_prepared (with_moved x m) p ≡ false
still_out x m p not_heap not_delayed =
    let heap : set.contains (set.retain x.heap (λ q. not (nat_le q m))) p ≡ false = retained x.heap (λ q. not (nat_le q m)) p ∙ ap (λ (b : Bool). b && not (nat_le p m)) not_heap in
    let moved : set.contains (set.retain x.heap (λ q. nat_le q m)) p ≡ false = retained x.heap (λ q. nat_le q m) p ∙ ap (λ (b : Bool). b && nat_le p m) not_heap in
    let delayed : set.contains (set.union x.delayed (set.retain x.heap (λ q. nat_le q m))) p ≡ false = set.contains-union nat_cmp_total x.delayed (set.retain x.heap (λ q. nat_le q m)) p ∙ (λ i. not_delayed i || moved i) in
    λ i. heap i || delayed i

pub gone_1 : set.contains (set.remove heap_then 1) 1 ≡ false
gone_1 = in_removed heap_then 1

pub not_delayed_1 : set.contains (set.remove no_numbers 1) 1 ≡ false
not_delayed_1 = in_removed no_numbers 1

-- 1 as the bound rises to it
pub delayed_1 : set.contains (set.union no_numbers (set.retain heap_then (λ q. nat_le q 1))) 1 ≡ true
delayed_1 =
    set.contains-union nat_cmp_total no_numbers (set.retain heap_then (λ q. nat_le q 1)) 1
    ∙ ap (λ (b : Bool). set.contains no_numbers 1 || b) (retained heap_then (λ q. nat_le q 1) 1 ∙ ap (λ (b : Bool). b && true) (in_inserted no_numbers 1))
    ∙ or_true (set.contains no_numbers 1)

-- ---- snapshots

abbrev pub one_live : Snapshots
one_live = with_registered no_snapshots 1

abbrev pub one_kept : Snapshots
one_kept = with_old_commit one_live 1 1

abbrev first_snapshot : LiveSnapshot
first_snapshot = record { registrations = 1; old_commits = set.empty }

abbrev kept_snapshot : LiveSnapshot
kept_snapshot = record { registrations = 1; old_commits = set.insert set.empty 1 }

live_is : finite.get one_live 1 ≡ Some first_snapshot
live_is = ap (λ (o : Option LiveSnapshot). finite.get (placed no_snapshots 1 (after_register o)) 1) (finite.get-empty nat_cmp 1) ∙ get_inserted no_snapshots 1 first_snapshot

kept_is : finite.get one_kept 1 ≡ Some kept_snapshot
kept_is = ap (λ (o : Option LiveSnapshot). finite.get (placed one_live 1 (after_keep 1 o)) 1) live_is ∙ get_inserted one_live 1 kept_snapshot

pub live_1 : IsLive one_live 1
live_1 = ap (λ (o : Option LiveSnapshot). is_some o) live_is

pub still_live_1 : IsLive one_kept 1
still_live_1 = ap (λ (o : Option LiveSnapshot). is_some o) kept_is

pub kept_1 : is_old_commit one_kept 1 1 ≡ true
kept_1 = ap (λ (o : Option LiveSnapshot). option_map_or (λ x. set.contains x.old_commits 1) o false) kept_is ∙ in_inserted no_numbers 1

-- the pair (1, 2) is kept under each live number that it overlaps
pub kept_under_1 : IsInOldCommits one_kept 1 2
kept_under_1 s live low high = let same : 1 ≡ s = omega (arith, low, high) in subst (λ (n : ℕ). is_old_commit one_kept n 1 ≡ true) same kept_1

pub none_live : IsInOldCommits no_snapshots 1 2
none_live s live low high = absurd (true≢false (sym live ∙ ap (λ (o : Option LiveSnapshot). is_some o) (finite.get-empty nat_cmp s)))
