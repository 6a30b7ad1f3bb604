-- The full list of a cut, cut short and from a number on, and what is last in it.
use Rattle.std.proofs.Common.{◌≡◌, ℕ, ◌+◌, ◌-◌, ◌≤◌, false, true, List, [], ◌∷◌, ◌++◌, length, take, drop, Option, Some, None, refl, sym, ap, ◌∙◌, length-append, append-nil, arith}
use Rattle.std.specs.Prelude.{is_some}
use Rattle.wp_model.specs.declared.carried.Carried.{Carried}
use Rattle.wp_model.specs.declared.entry.Entry.{Entry}
use Rattle.wp_model.specs.declared.entry.Entry.TheVariants.{Write, Prepare, Commit, Undo, Close}
use Rattle.wp_model.specs.declared.version.Version.{Version}
use Rattle.wp_model.specs.History.{entry_at}
use Rattle.wp_model.specs.Legal.{undone_last}
use Rattle.wp_model.proofs.Entries.{entry_at_old}
use Rattle.wp_cuts.specs.Cut.{Cut, carried_at, is_fixed, changes_at, front_entry_of, full_of}
use Rattle.wp_cuts.specs.LegalCut.{cut_front}
use Rattle.wp_cuts.proofs.Agreeing.{take_behind, drop_behind}
use Rattle.wp_cuts.proofs.FullList.{front, full_is, front_long, front_at, front_undone, fixed_parts}

-- ---- what is last

undone_over : (first : Entry) (before : List Entry) (last : Entry) (more : List Entry) → undone_last (first ∷ before ++ last ∷ more) ≡ undone_last (last ∷ more)
undone_over (Write batch) [] last more = refl
undone_over (Prepare name batch) [] last more = refl
undone_over (Commit p) [] last more = refl
undone_over (Undo p batch) [] last more = refl
undone_over (Close p) [] last more = refl
undone_over (Write batch) (second ∷ before) last more = undone_over second before last more
undone_over (Prepare name batch) (second ∷ before) last more = undone_over second before last more
undone_over (Commit p) (second ∷ before) last more = undone_over second before last more
undone_over (Undo p batch) (second ∷ before) last more = undone_over second before last more
undone_over (Close p) (second ∷ before) last more = undone_over second before last more

pub undone_behind : (before more : List Entry) → undone_last before ≡ None → undone_last (before ++ more) ≡ undone_last more
undone_behind [] more none = refl
undone_behind (first ∷ before) [] none = ap undone_last (append-nil (first ∷ before)) ∙ none
undone_behind (first ∷ before) (last ∷ more) none = undone_over first before last more

module _ (c : Cut) (versions : List Version) where
  pub full_undone : undone_last (full_of c versions) ≡ undone_last c.entries
  full_undone = ap undone_last (full_is c versions) ∙ undone_behind (front c versions c.base) c.entries (front_undone c versions c.base)

  -- ---- its first entries, and those behind a number

  pub full_front : (n : ℕ) → c.base ≤ n → n ≤ c.base + length c.entries → take n (full_of c versions) ≡ full_of (cut_front c (n - c.base)) versions
  full_front n above within =
      let before = front c versions c.base in
      let long = front_long c versions c.base in
      ap (take n) (full_is c versions)
      ∙ take_behind before c.entries n (omega (arith, above, long)) (omega (arith, within, long, length-append before c.entries))
      ∙ ap (λ (m : ℕ). before ++ take (n - m) c.entries) long
      ∙ sym (full_is (cut_front c (n - c.base)) versions)

  pub full_rest : (n : ℕ) → c.base ≤ n → drop n (full_of c versions) ≡ drop (n - c.base) c.entries
  full_rest n above =
      let before = front c versions c.base in
      let long = front_long c versions c.base in
      ap (drop n) (full_is c versions)
      ∙ drop_behind before c.entries n (omega (arith, above, long))
      ∙ ap (λ (m : ℕ). drop (n - m) c.entries) long

  -- ---- a fixed number

  pub full_fixed : (p : ℕ) → is_fixed c p ≡ true → entry_at (full_of c versions) p ≡ Some (Write (changes_at versions p))
  full_fixed p fixed =
      let s = fixed_parts c p fixed in
      let within = s.within in
      ap (λ (h : List Entry). entry_at h p) (full_is c versions)
      ∙ entry_at_old (front c versions c.base) c.entries p (omega (arith, within, front_long c versions c.base))
      ∙ front_at c versions c.base p s.low s.within
      ∙ by (carried_at c p) refl s.other
    where
      by : (o : Option Carried) → carried_at c p ≡ o → is_some (carried_at c p) ≡ false → Some (front_entry_of versions p (carried_at c p)) ≡ Some (Write (changes_at versions p))
      by None e other = ap (λ (o : Option Carried). Some (front_entry_of versions p o)) e
      by (Some x) e other = let some : is_some (carried_at c p) ≡ true = ap is_some e in absurd cc
