-- Lists of versions: what is so of each is so of each that a look-up finds.
use Rattle.std.proofs.Common.{filter, nat_le, ◌≡◌, ◌≢◌, ℕ, ◌<◌, ◌≤◌, Bool, true, false, ◌==◌, cond, List, [], ◌∷◌, ◌⊎◌, inl, inr, Option, Some, None, refl, sym, ap, ◌∙◌, subst, arith}
use Rattle.std.proofs.lemmas.Bool.{eq-eqb, cases_lt, le-leb, leb-true}
use Rattle.wp_model.specs.declared.version.Version.{Version}
use Rattle.wp_model.specs.Versions.{version_at}
use Rattle.wp_cover.proofs.Order.{is_here, at_here, here_itself}
use Rattle.wp_core.specs.States.{up_to}
use Rattle.wp_core.specs.Sound.Store.{NoneFlushed}
use Rattle.wp_machine_permits.specs.Each.{Each}
use Rattle.wp_machine_permits.specs.VersionLists.{HasAll, AreSame, NoneAt, StayUpTo, SameAt}

module _ (P : List ℕ → ℕ → Type 0) where
  pub each_at : (vs : List Version) → Each (λ (v : Version). P v.key v.number) vs → (key : List ℕ) (p : ℕ) (value : Option (List ℕ)) → version_at vs key p ≡ Some value → P key p
  each_at [] each key p value is = absurd cc
  each_at (v ∷ vs) each key p value is = by (is_here key p v) refl is (each_at vs each.1 key p value)
    where
      by : (b : Bool) → is_here key p v ≡ b → cond b (Some v.value) (version_at vs key p) ≡ Some value → (version_at vs key p ≡ Some value → P key p) → P key p
      by false here is rest = rest is
      by true here is rest =
          let at = at_here key p v here in
          let step : P key v.number = subst (λ (k : List ℕ). P k v.number) at.key_is each.0 in
          subst (λ (n : ℕ). P key n) at.number_is step

  pub at_each : (vs : List Version) → ((key : List ℕ) (p : ℕ) (value : Option (List ℕ)) → version_at vs key p ≡ Some value → P key p) → Each (λ (v : Version). P v.key v.number) vs
  at_each [] every = tt
  at_each (v ∷ vs) every = (every v.key v.number v.value (ap (λ b. cond b (Some v.value) (version_at vs v.key v.number)) (here_itself v)), at_each vs (λ key p value e. behind key p value (is_here key p v) refl e))
    where
      behind : (key : List ℕ) (p : ℕ) (value : Option (List ℕ)) (b : Bool) → is_here key p v ≡ b → version_at vs key p ≡ Some value → P key p
      behind key p value false here e = every key p value (ap (λ b. cond b (Some v.value) (version_at vs key p)) here ∙ e)
      behind key p value true here e = every key p v.value (ap (λ b. cond b (Some v.value) (version_at vs key p)) here)

-- ---- two lists

abbrev pub AreAmong : List Version → List Version → List Version → Type 0
AreAmong versions others listed = Each (λ (v : Version). version_at others v.key v.number ≡ version_at versions v.key v.number) listed

pub all_had : (versions others : List Version) → AreAmong versions others versions → HasAll versions others
all_had versions others each key p value is = each_at (λ k q. version_at others k q ≡ version_at versions k q) versions each key p value is ∙ is

pub had_all : (versions others : List Version) → HasAll versions others → AreAmong versions others versions
had_all versions others has = at_each (λ k q. version_at others k q ≡ version_at versions k q) versions (λ key p value is. has key p value is ∙ sym is)

-- ---- numbers

abbrev pub AreNotAt : ℕ → List Version → Type 0
AreNotAt n versions = Each (λ (v : Version). v.number ≢ n) versions

pub none_from : (n : ℕ) (versions : List Version) → AreNotAt n versions → NoneAt n versions
none_from n versions each key = by (version_at versions key n) refl
  where
    by : (a : Option (Option (List ℕ))) → version_at versions key n ≡ a → version_at versions key n ≡ None
    by None e = e
    by (Some x) e = absurd (each_at (λ k q. q ≢ n) versions each key n x e refl)

pub from_none : (n : ℕ) (versions : List Version) → NoneAt n versions → AreNotAt n versions
from_none n versions none = at_each (λ k q. q ≢ n) versions (λ key p value is same. let at = subst (λ (q : ℕ). version_at versions key q ≡ Some value) same is in let no = none key in absurd cc)

abbrev pub AreAbove : ℕ → List Version → Type 0
AreAbove flushed versions = Each (λ (v : Version). flushed < v.number) versions

pub flushed_from : (flushed : ℕ) (versions : List Version) → AreAbove flushed versions → NoneFlushed versions flushed
flushed_from flushed versions each key p le = by (version_at versions key p) refl
  where
    by : (a : Option (Option (List ℕ))) → version_at versions key p ≡ a → version_at versions key p ≡ None
    by None e = e
    by (Some x) e = let above = each_at (λ k q. flushed < q) versions each key p x e in absurd (omega arith)

pub from_flushed : (flushed : ℕ) (versions : List Version) → NoneFlushed versions flushed → AreAbove flushed versions
from_flushed flushed versions none = at_each (λ k q. flushed < q) versions (λ key p value is. either key p value is (cases_lt flushed p))
  where
    either : (key : List ℕ) (p : ℕ) (value : Option (List ℕ)) → version_at versions key p ≡ Some value → (flushed < p) ⊎ (p ≤ flushed) → flushed < p
    either key p value is (inl lt) = lt
    either key p value is (inr le) = let no = none key p le in absurd cc

-- ---- those whose number passes a test

module _ (g : ℕ → Bool) where
  none_either : (b : Bool) (o : Option (Option (List ℕ))) → o ≡ None → o ≡ cond b o None
  none_either true o e = refl
  none_either false o e = e

  pub filtered_at : (vs : List Version) (key : List ℕ) (p : ℕ) → version_at (filter (λ (v : Version). g v.number) vs) key p ≡ cond (g p) (version_at vs key p) None
  filtered_at [] key p = none_either (g p) None refl
  filtered_at (v ∷ vs) key p = by (g v.number) refl (is_here key p v) refl (filtered_at vs key p)
    where
      by : (b : Bool) → g v.number ≡ b → (d : Bool) → is_here key p v ≡ d → version_at (filter (λ (w : Version). g w.number) vs) key p ≡ cond (g p) (version_at vs key p) None → version_at (cond b (v ∷ filter (λ (w : Version). g w.number) vs) (filter (λ (w : Version). g w.number) vs)) key p ≡ cond (g p) (cond d (Some v.value) (version_at vs key p)) None
      by true e true h rest = let passes : g p ≡ true = sym (ap g (at_here key p v h).number_is) ∙ e in rw (h, passes) refl
      by true e false h rest = rw h rest
      by false e true h rest = let fails : g p ≡ false = sym (ap g (at_here key p v h).number_is) ∙ e in rest ∙ rw fails refl
      by false e false h rest = rest

pub same_up_to : (n : ℕ) (versions others : List Version) → AreSame (up_to n versions) (up_to n others) → StayUpTo n versions others
same_up_to n versions others same key p le =
    let passes = le-leb p n le in
    let first : version_at (up_to n versions) key p ≡ version_at versions key p = filtered_at (λ q. nat_le q n) versions key p ∙ ap (λ b. cond b (version_at versions key p) None) passes in
    let second : version_at (up_to n others) key p ≡ version_at others key p = filtered_at (λ q. nat_le q n) others key p ∙ ap (λ b. cond b (version_at others key p) None) passes in
    sym first ∙ same key p ∙ second

pub up_to_same : (n : ℕ) (versions others : List Version) → StayUpTo n versions others → AreSame (up_to n versions) (up_to n others)
up_to_same n versions others stay key p = filtered_at (λ q. nat_le q n) versions key p ∙ by (nat_le p n) refl ∙ sym (filtered_at (λ q. nat_le q n) others key p)
  where
    by : (b : Bool) → nat_le p n ≡ b → cond b (version_at versions key p) None ≡ cond b (version_at others key p) None
    by true e = stay key p (leb-true p n e)
    by false e = refl

pub same_only_at : (n : ℕ) (versions others : List Version) → AreSame (filter (λ (v : Version). v.number == n) versions) (filter (λ (v : Version). v.number == n) others) → SameAt n versions others
same_only_at n versions others same key =
    let here = eq-eqb n n refl in
    let first : version_at (filter (λ (v : Version). v.number == n) versions) key n ≡ version_at versions key n = filtered_at (λ q. q == n) versions key n ∙ ap (λ b. cond b (version_at versions key n) None) here in
    let second : version_at (filter (λ (v : Version). v.number == n) others) key n ≡ version_at others key n = filtered_at (λ q. q == n) others key n ∙ ap (λ b. cond b (version_at others key n) None) here in
    sym first ∙ same key n ∙ second
