-- How an outline grows, and stands for lists with other versions.
use Rattle.std.proofs.Common.{◌≡◌, ℕ, suc, ◌+◌, ◌-◌, ◌<◌, ◌≤◌, List, [], ◌∷◌, ◌++◌, length, map, take, Some, refl, sym, ap, ◌∙◌, subst, arith}
use Rattle.std.specs.Prelude.{slice_get}
use Rattle.std.proofs.lemmas.List.{take_all}
use Rattle.std.proofs.lemmas.Option.{slice_get_within}
use Rattle.wp_model.specs.declared.carried.Carried.{Carried}
use Rattle.wp_model.specs.declared.entry.Entry.{Entry}
use Rattle.wp_model.specs.declared.version.Version.{Version}
use Rattle.wp_model.specs.History.{undecided}
use Rattle.wp_model.specs.Legal.{IsOrderlyNext, log_end}
use Rattle.wp_history_laws.specs.Growth.{AreAscending, undecided_after}
use Rattle.wp_history_laws.proofs.Ascending.{undecided_ascend}
use Rattle.wp_history_laws.proofs.Growth.{AreNaming}
use Rattle.wp_history_laws.proofs.Undecided.{undecided_more}
use Rattle.wp_cuts.specs.Cut.{Cut, cut_at, full_of}
use Rattle.wp_cuts.specs.LegalCut.{AreNumbered, AreApart, cut_front, prepares_of, IsOrderlyCut}
use Rattle.wp_cuts.proofs.Alike.{undecided_alike}
use Rattle.wp_cuts.proofs.FullLegal.{orderly_front, orderly_next, orderly_stands, orderly_over}
use Rattle.wp_cuts.proofs.FullList.{full_is_cut, full_behind, full_long, full_undecided}
use Rattle.wp_cuts.proofs.Several.{full_grows}
use Rattle.wp_cuts.proofs.Whole.{full_front}
use Rattle.wp_history.specs.History.{RoomyHistory, IsOutline, cut_of}
use Rattle.wp_history.specs.Outline.{cut_in, full_with}

module _ (c : Cut) (versions : List Version) (numbers : List ℕ) (kept : IsOutline c versions numbers) where
  pub numbers_ascend : AreAscending numbers
  numbers_ascend = subst AreAscending (sym kept.numbered) (undecided_ascend (full_of c versions))

  pub naming_of : AreNaming (full_of c versions)
  naming_of = (orderly_stands c versions kept.cut).naming

  -- each entry behind the base may follow those before it, with these versions too
  pub orderly_there : (n : ℕ) (entry : Entry) → c.base ≤ n → slice_get (full_of c versions) n ≡ Some entry → IsOrderlyNext (take n (full_of c versions)) entry
  orderly_there n entry from at =
      let there : slice_get c.entries (n - c.base) ≡ Some entry = ap (slice_get c.entries) (let e : n - c.base ≡ suc n - 1 - c.base = omega arith in e) ∙ sym (full_behind c versions (suc n) (omega arith)) ∙ at in
      let within = slice_get_within c.entries (n - c.base) entry there in
      subst (λ (h : List Entry). IsOrderlyNext h entry) (sym (full_front c versions n from (omega (arith, within, from))))
      (orderly_over (cut_front c (n - c.base)) [] versions entry (orderly_front c (n - c.base) kept.cut) (kept.cut.each (n - c.base) entry there))

-- ---- at a base

module _ (base : ℕ) (carried : List Carried) (versions : List Version) where
  abbrev at_base : Cut
  at_base = cut_of base carried []

  pub kept_at_base : (numbers : List ℕ) → base < log_end → AreNumbered at_base → AreApart at_base → numbers ≡ map (λ (x : Carried). x.number) carried → IsOutline at_base versions numbers
  kept_at_base numbers few numbered apart are = record {
    cut = record { few = omega (arith, few); numbered = numbered; apart = apart; each = λ n entry at. absurd cc };
    numbered = are ∙ sym all;
  }
    where
      long : length (full_of at_base versions) ≡ base
      long = let it = full_long at_base versions in omega (arith, it)

      all : undecided (full_of at_base versions) ≡ map (λ (x : Carried). x.number) carried
      all = ap undecided (sym (take_all base (full_of at_base versions) (omega (arith, long)))) ∙ full_undecided at_base versions numbered

-- ---- none yet

pub kept_nothing : (versions : List Version) → IsOutline (cut_of 0 [] []) versions []
kept_nothing versions = kept_at_base 0 [] versions [] (omega arith) (record { ascend = tt; within = tt })
    (record { ascending = λ p x found. absurd cc; names = λ p q x y found. absurd cc; keys = λ p q x y key found. absurd cc })
    refl

-- ---- with an entry more

module _ (base : ℕ) (carried : List Carried) (later : List Entry) (versions : List Version) where
  abbrev kept_cut : Cut
  kept_cut = cut_of base carried later

  abbrev full : List Entry
  full = full_of kept_cut versions

  pub full_next : (old : List Entry) (entry : Entry) (grown : List Entry) → full ≡ old → grown ≡ later ++ entry ∷ [] → full_of (cut_of base carried grown) versions ≡ old ++ entry ∷ []
  full_next old entry grown same is =
      ap (λ (es : List Entry). full_of (cut_of base carried es) versions) is
      ∙ full_grows kept_cut versions (entry ∷ [])
      ∙ ap (λ (h : List Entry). h ++ entry ∷ []) same

  pub kept_next : (old : List Entry) (numbers : List ℕ) (entry : Entry) (n : ℕ) (grown : List Entry) (left : List ℕ)
      → IsOutline kept_cut versions numbers → full ≡ old → IsOrderlyNext old entry → n ≡ length old → length old + 1 < log_end
      → grown ≡ later ++ entry ∷ [] → left ≡ undecided_after numbers (n + 1) entry
      → IsOutline (cut_of base carried grown) versions left
  kept_next old numbers entry n grown left kept same after number few is left-is =
      subst (λ (es : List Entry). IsOutline (cut_of base carried es) versions left) (sym is) (record {
        cut = orderly_next kept_cut entry kept.cut (orderly_over kept_cut versions [] entry kept.cut follows_full) (let long = full_long kept_cut versions in let e : length full ≡ length old = ap length same in omega (arith, few, e, long));
        numbered = numbered ∙ ap undecided (sym now);
      })
    where
      now : full_of (cut_of base carried (later ++ entry ∷ [])) versions ≡ full ++ entry ∷ []
      now = full_grows kept_cut versions (entry ∷ [])

      follows_full : IsOrderlyNext full entry
      follows_full = subst (λ (h : List Entry). IsOrderlyNext h entry) (sym same) after

      numbered : left ≡ undecided (full ++ entry ∷ [])
      numbered =
          left-is
          ∙ ap (λ (m : ℕ). undecided_after numbers m entry) (let e : length full ≡ length old = ap length same in let k : n + 1 ≡ length full + 1 = omega (arith, e, number) in k)
          ∙ ap (λ (ns : List ℕ). undecided_after ns (length full + 1) entry) kept.numbered
          ∙ sym (undecided_more full entry (naming_of kept_cut versions numbers kept) follows_full.names_undecided)

-- ---- with other versions

same_numbers : (c : Cut) (one other : List Version) → IsOrderlyCut c → undecided (full_of c one) ≡ undecided (full_of c other)
same_numbers c one other orderly =
    sym (undecided_alike (prepares_of c) (full_of c one) (orderly_stands c one orderly).alike) ∙ undecided_alike (prepares_of c) (full_of c other) (orderly_stands c other orderly).alike

pub kept_with : (c : Cut) (versions its : List Version) (numbers : List ℕ) → IsOutline c versions numbers → IsOutline c its numbers
kept_with c versions its numbers kept = record { cut = kept.cut; numbered = kept.numbered ∙ same_numbers c versions its kept.cut }

abbrev seen : ℕ → List Entry → ℕ → RoomyHistory
seen base entries room = record { base = base; entries = entries; room = room }

-- what is seen then
pub with_versions_is : (c : Cut) (versions its : List Version) (room : ℕ) (h : RoomyHistory) → seen c.base (full_of c versions) room ≡ h → AreNumbered c
    → seen c.base (full_of c its) room ≡ record h { entries = full_with h its }
with_versions_is c versions its room h is numbered =
    let cut : c ≡ cut_at (full_of c versions) c.base = (full_is_cut c versions numbered).is in
    subst (λ (k : RoomyHistory). seen c.base (full_of c its) room ≡ record k { entries = full_with k its }) is
    (ap (λ (es : List Entry). seen c.base es room) (ap (λ (d : Cut). full_of d its) cut))

-- the cut that is seen is orderly
pub cut_is_orderly : (c : Cut) (versions : List Version) (room : ℕ) (h : RoomyHistory) → seen c.base (full_of c versions) room ≡ h → IsOrderlyCut c → IsOrderlyCut (cut_in h)
cut_is_orderly c versions room h is orderly = subst (λ (k : RoomyHistory). IsOrderlyCut (cut_in k)) is (subst IsOrderlyCut (full_is_cut c versions orderly.numbered).is orderly)

-- the cut that is seen grows
pub cut_next : (base : ℕ) (carried : List Carried) (later : List Entry) (versions : List Version) (entry : Entry) (grown : List Entry) (room : ℕ) (h : RoomyHistory)
    → seen base (full_of (cut_of base carried later) versions) room ≡ h → grown ≡ later ++ entry ∷ [] → AreNumbered (cut_of base carried later)
    → cut_at (full_of (cut_of base carried grown) versions) base ≡ record (cut_in h) { entries = (cut_in h).entries ++ entry ∷ [] }
cut_next base carried later versions entry grown room h same is numbered =
    let before : cut_in h ≡ cut_of base carried later = ap cut_in (sym same) ∙ sym (full_is_cut (cut_of base carried later) versions numbered).is in
    let after : cut_at (full_of (cut_of base carried grown) versions) base ≡ cut_of base carried grown = sym (full_is_cut (cut_of base carried grown) versions (record { ascend = numbered.ascend; within = numbered.within })).is in
    after ∙ ap (cut_of base carried) is ∙ ap (λ (d : Cut). record d { entries = d.entries ++ entry ∷ [] }) (sym before)
