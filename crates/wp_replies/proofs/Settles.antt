-- What rows say of several transactions at once: it stays so as the history grows, and each entry that a reply acknowledges was asked for.
use Rattle.std.proofs.Common.{◌≡◌, ℕ, zero, suc, ◌+◌, ◌-◌, ◌<◌, ◌≤◌, List, [], ◌∷◌, ◌++◌, length, take, Some, refl, sym, subst, arith}
use Rattle.std.specs.List.{AllByRecursion, AllZip, Contains}
use Rattle.std.proofs.lemmas.Slice.Eq.{bytes_eq-Decides}
use Rattle.std.proofs.lemmas.Slice.Zip.{AllZip-long}
use Rattle.wp_model.specs.declared.entry.Entry.{Entry}
use Rattle.wp_model.specs.declared.entry.Entry.TheVariants as entry
use Rattle.wp_model.specs.History.{named}
use Rattle.wp_model.proofs.Found.{found_named}
use Rattle.wp_text.specs.declared.script.Command.{Command}
use Rattle.wp_text.specs.declared.script.Command.TheVariants as command
use Rattle.wp_replies.specs.Txn.{Txn, Idle}
use Rattle.wp_replies.specs.Kind.{numbers_to}
use Rattle.wp_replies.specs.Replies.{IsFresh, IsLoggedAt, WasUndecided, CommitsNamed, AsksFor, AreNamed, AreCommitted, SettlesAll, IsFirstRefused}
use Rattle.wp_replies.specs.Laws.{AreAsked}

-- ---- by another list

-- what each name and its place have, in another way
pub zip_map : {A B : Type 0} (R S : A → B → Type 0) → ((a : A) (b : B) → R a b → S a b) → (xs : List A) (ys : List B) → AllZip R xs ys → AllZip S xs ys
zip_map R S f [] [] all = tt
zip_map R S f [] (y ∷ ys) all = absurd all
zip_map R S f (x ∷ xs) [] all = absurd all
zip_map R S f (x ∷ xs) (y ∷ ys) all = (f x y all.0, zip_map R S f xs ys all.1)

pub all_map : {A : Type 0} (P Q : A → Type 0) → ((a : A) → P a → Q a) → (xs : List A) → AllByRecursion P xs → AllByRecursion Q xs
all_map P Q f [] all = tt
all_map P Q f (x ∷ xs) all = (f x all.0, all_map P Q f xs all.1)

-- Another list has what this one had, of entries and of prepares that were undecided.
module _ (h other : List Entry) (last : ℕ) (logged : (n : ℕ) (e : Entry) → IsLoggedAt h last n e → IsLoggedAt other last n e) (was : (name : List ℕ) (p : ℕ) → WasUndecided h last name p → WasUndecided other last name p) where
  pub committed_too : (n : ℕ) (numbers : List ℕ) → AreCommitted h last n numbers → AreCommitted other last n numbers
  committed_too n [] all = tt
  committed_too n (p ∷ numbers) all = (logged (suc n) (entry.Commit p) all.0, committed_too (suc n) numbers all.1)

  pub refused_too : (names : List (List ℕ)) (name : List ℕ) → IsFirstRefused h last names name → IsFirstRefused other last names name
  refused_too names name k = record {
    before = k.before;
    after = k.after;
    place = k.place;
    undecided = all_map (λ x. (p : ℕ) × WasUndecided h last x p) (λ x. (p : ℕ) × WasUndecided other last x p) (λ x k. (k.0, was x k.0 k.1)) k.before k.undecided;
  }

  pub asks_too : (txn : Txn) (c : Command) (entries : List Entry) → AsksFor h last txn c entries → AsksFor other last txn c entries
  asks_too Idle (command.Settle names) entries asks = zip_map (CommitsNamed h last) (CommitsNamed other last) (λ x e k. (k.0, k.1, was x k.0 k.2)) names entries asks
  asks_too txn c entries asks = asks

-- ---- the numbers of the Commits

module _ (h : List Entry) (last : ℕ) where
  -- they end within the history
  committed_within : (n : ℕ) (numbers : List ℕ) → ((m : ℕ) (e : Entry) → IsLoggedAt h last m e → m ≤ length h) → 1 ≤ length numbers → AreCommitted h last n numbers → (last ≤ n) × (n + length numbers ≤ length h)
  committed_within n [] within some all = absurd (omega (arith, some))
  committed_within n (p ∷ []) within some all = let l = within (suc n) (entry.Commit p) all.0 in (omega (arith, all.0.0), omega (arith, l))
  committed_within n (p ∷ q ∷ numbers) within some all = let rest = committed_within (suc n) (q ∷ numbers) within (omega arith) all.1 in (omega (arith, all.0.0), omega (arith, rest.1))

  some_numbers : (names : List (List ℕ)) (n count : ℕ) (k : SettlesAll h last names n count) → (length k.numbers ≡ count) × (1 ≤ length k.numbers)
  some_numbers names n count k =
      let long : length k.numbers ≡ length names = AllZip-long (λ name p. named (take k.published h) name ≡ Some p) names k.numbers k.named in let all = k.all in let some = k.some in
      (omega (arith, long, all), omega (arith, long, all, some))

  pub settled_fresh : (names : List (List ℕ)) (n count : ℕ) → ((m : ℕ) (e : Entry) → IsLoggedAt h last m e → m ≤ length h) → (k : SettlesAll h last names n count) → IsFresh h last k.published × IsFresh h last n
  settled_fresh names n count within k =
      let size = some_numbers names n count k in
      let ends = committed_within k.published k.numbers within size.1 k.committed in let behind = k.behind in
      ((ends.0, omega (arith, ends.1)), (omega (arith, ends.0, behind), omega (arith, ends.1, behind, size.0)))

  was_named : (at : ℕ) (name : List ℕ) (p : ℕ) → IsFresh h last at → named (take at h) name ≡ Some p → WasUndecided h last name p
  was_named at name p fresh is = let found = found_named (take at h) name p is in record { at = at; fresh = fresh; undecided = found.0; named = (bytes_eq-Decides _ _).0 found.1 }

  module _ (published : ℕ) (fresh : IsFresh h last published) where
    Asked : (names : List (List ℕ)) → ℕ → Type 0
    Asked names n = (e : Entry) × IsLoggedAt h last n e × ((name : List ℕ) × Contains names name × CommitsNamed h last name e)

    -- the entry in the place of each name
    one_asked : (names : List (List ℕ)) (numbers : List ℕ) (n k : ℕ) → AreNamed (take published h) names numbers → AreCommitted h last n numbers → k < length numbers → Asked names (n + suc k)
    unfolding Asked
    one_asked [] [] n k named all lt = absurd (omega (arith, lt))
    one_asked [] (p ∷ numbers) n k named all lt = absurd named
    one_asked (name ∷ names) [] n k named all lt = absurd named
    one_asked (name ∷ names) (p ∷ numbers) n zero named all lt =
        let here : suc n ≡ n + 1 = omega arith in
        (entry.Commit p, subst (λ (m : ℕ). IsLoggedAt h last m (entry.Commit p)) here all.0, (name, (0, omega arith, refl), (p, refl, was_named published name p fresh named.0)))
    one_asked (name ∷ names) (p ∷ numbers) n (suc k) named all lt =
        let there : suc n + suc k ≡ n + suc (suc k) = omega arith in
        let rest = subst (Asked names) there (one_asked names numbers (suc n) k named.1 all.1 (omega (arith, lt))) in
        let at = rest.2.1 in
        (rest.0, rest.1, (rest.2.0, (suc at.0, omega (arith, at.1), at.2), rest.2.2))

    asked_push : (names : List (List ℕ)) (numbers : List ℕ) (n : ℕ) → AreAsked h last Idle (command.Settle names) numbers → Asked names n → AreAsked h last Idle (command.Settle names) (numbers ++ n ∷ [])
    unfolding Asked
    asked_push names [] n all one = ((one.0, one.1, one.2), tt)
    asked_push names (m ∷ numbers) n all one = (all.0, asked_push names numbers n all.1 one)

    asked_to : (names : List (List ℕ)) (numbers : List ℕ) (n k : ℕ) → AreNamed (take published h) names numbers → AreCommitted h last n numbers → k ≤ length numbers → AreAsked h last Idle (command.Settle names) (numbers_to (n + k) k)
    asked_to names numbers n zero named all le = tt
    asked_to names numbers n (suc k) named all le =
        let before : n + k ≡ n + suc k - 1 = omega arith in
        asked_push names (numbers_to (n + suc k - 1) k) (n + suc k) (subst (λ (m : ℕ). AreAsked h last Idle (command.Settle names) (numbers_to m k)) before (asked_to names numbers n k named all (omega (arith, le)))) (one_asked names numbers n k named all (omega (arith, le)))

  pub settled_asked : (names : List (List ℕ)) (n count : ℕ) → ((m : ℕ) (e : Entry) → IsLoggedAt h last m e → m ≤ length h) → SettlesAll h last names n count → AreAsked h last Idle (command.Settle names) (numbers_to n count)
  settled_asked names n count within k =
      let size = some_numbers names n count k in
      let asked = asked_to k.published (settled_fresh names n count within k).0 names k.numbers k.published count k.named k.committed (omega (arith, size.0)) in
      subst (λ (m : ℕ). AreAsked h last Idle (command.Settle names) (numbers_to m count)) (sym k.behind) asked
