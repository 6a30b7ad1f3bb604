-- Several entries behind a cut, as a record has them.
use Rattle.std.proofs.Common.{◌≡◌, ℕ, zero, suc, List, [], ◌∷◌, ◌++◌, take, refl, sym, ap, ◌∙◌, subst, append_assoc, append-nil}
use Rattle.wp_model.specs.declared.entry.Entry.{Entry}
use Rattle.wp_model.specs.declared.version.Version.{Version}
use Rattle.wp_model.specs.Legal.{NamesUndecided, IsOrderlyNext}
use Rattle.wp_history_laws.proofs.Following.{follow_next}
use Rattle.wp_history_laws.proofs.Growth.{AreNaming}
use Rattle.wp_cuts.specs.Cut.{Cut, IsCut, full_of}
use Rattle.wp_cuts.specs.LegalCut.{prepares_of, AreOrderlyBehind}
use Rattle.wp_cuts.proofs.Alike.{AreAlike, alike_back, alike_behind, orderly_alike}
use Rattle.wp_cuts.proofs.FullList.{front, full_is}
use Rattle.wp_cuts.proofs.Standing.{stands_for}

-- the full list grows as the cut does
pub full_grows : (c : Cut) (versions : List Version) (more : List Entry) → full_of (record c { entries = c.entries ++ more }) versions ≡ full_of c versions ++ more
full_grows c versions more =
    full_is (record c { entries = c.entries ++ more }) versions
    ∙ sym (append_assoc (front c versions c.base) c.entries more)
    ∙ ap (λ (h : List Entry). h ++ more) (sym (full_is c versions))

-- ---- what is orderly behind one list is so behind another that is alike

first_of : (before : List Entry) (entry : Entry) (entries : List Entry) → AreOrderlyBehind before (entry ∷ entries) → IsOrderlyNext before entry
first_of before entry entries after = subst (λ (h : List Entry). IsOrderlyNext h entry) (append-nil before) (after 0 entry refl)

rest_of : (before : List Entry) (entry : Entry) (entries : List Entry) → AreOrderlyBehind before (entry ∷ entries) → AreOrderlyBehind (before ++ entry ∷ []) entries
rest_of before entry entries after n other at = subst (λ (h : List Entry). IsOrderlyNext h other) (sym (append_assoc before (entry ∷ []) (take n entries))) (after (suc n) other at)

firsts_of : (before entries : List Entry) (n : ℕ) → AreOrderlyBehind before entries → AreNaming before → AreNaming (before ++ take n entries)
firsts_of before entries zero after naming = subst AreNaming (sym (append-nil before)) naming
firsts_of before [] (suc n) after naming = subst AreNaming (sym (append-nil before)) naming
firsts_of before (entry ∷ entries) (suc n) after naming =
    let next = follow_next NamesUndecided before entry naming (first_of before entry entries after).names_undecided in
    subst AreNaming (append_assoc before (entry ∷ []) (take n entries)) (firsts_of (before ++ entry ∷ []) entries n (rest_of before entry entries after) next)

pub orderly_behind_alike : (one other entries : List Entry) → AreAlike one other → AreNaming one → AreNaming other → AreOrderlyBehind one entries → AreOrderlyBehind other entries
orderly_behind_alike one other entries a naming also after n entry at =
    orderly_alike (one ++ take n entries) (other ++ take n entries) entry (alike_behind one other (take n entries) a (firsts_of one entries n after naming) also).alike (after n entry at)

-- what is orderly behind a cut is that behind each list with this cut
module _ (history entries : List Entry) (c : Cut) (naming : AreNaming history) (cut : IsCut history c) where
  pub all_orderly_to : AreOrderlyBehind (prepares_of c) entries → AreOrderlyBehind history entries
  all_orderly_to = let stands = stands_for history c [] naming cut in orderly_behind_alike (prepares_of c) history entries (alike_back history (prepares_of c) stands.alike) stands.naming naming

  pub all_orderly_from : AreOrderlyBehind history entries → AreOrderlyBehind (prepares_of c) entries
  all_orderly_from = let stands = stands_for history c [] naming cut in orderly_behind_alike history (prepares_of c) entries stands.alike naming stands.naming
