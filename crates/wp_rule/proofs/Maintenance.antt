-- What a seat knows over the history that it has seen, of what may become of the store and of the edits, is so over all of it.
use Rattle.std.proofs.Common.{◌≡◌, ◌⊎◌, ⊎_elim, ℕ, suc, ◌<◌, ◌≤◌, Bool, true, false, cond, ◌&&◌, ◌==◌, List, [], ◌∷◌, ◌++◌, length, length-append, append-nil, append_assoc, sym, subst, ap, ◌∙◌, inl, inr, Option, Some, None, arith}
use Rattle.std.specs.Str.{bytes_eq}
use Rattle.std.proofs.lemmas.Bool.{cases_lt, eqb-true, or_cases}
use Rattle.wp_model.specs.declared.entry.Entry.{Entry}
use Rattle.wp_model.specs.declared.version.Version.{Version}
use Rattle.wp_model.specs.Covered.{IsCovered, is_among}
use Rattle.wp_model.specs.Decision.{version_in, entry_version}
use Rattle.wp_model.specs.Flushed.{InstalledEdit, IsEditCovered}
use Rattle.wp_model.specs.Legal.{IsLegal}
use Rattle.wp_model.specs.Snapshots.{Snapshots, IsLive}
use Rattle.wp_model.specs.Versions.{version_at}
use Rattle.wp_history_laws.proofs.Counting.{entry_version_old}
use Rattle.wp_history_laws.proofs.Growth.{legal_before}
use Rattle.wp_core.specs.Sound.Actors.{StartsWith}
use Rattle.wp_core.specs.Sound.Store.{IsStored}
use Rattle.wp_core.specs.States.{StoreState, Installed, live_numbers, up_to}
use Rattle.wp_core.specs.World.{Actor}
use Rattle.wp_core.proofs.CoveredGrows.{covered_grows}
use Rattle.wp_core.proofs.HistoryGrows.{none_is, grown_length, version_new}
use Rattle.wp_core.proofs.PendingVersions.{covers_same}
use Rattle.wp_core.proofs.PublishesVersions.{at_back, up_to_within, up_to_past, edit_part}
use Rattle.wp_core.proofs.SnapshotsStep.{among_live}
use Rattle.wp_model.proofs.Tests.{none_some}
use Rattle.wp_rule.specs.Knows.{KnowsMoved, KnowsReplaced}

-- ---- from what was seen to all of a history, entry by entry

along : (P : List Entry → Type 0) (whole : List Entry) (low : ℕ) → IsLegal whole
    → ((h : List Entry) (entry : Entry) (more : List Entry) → (h ++ entry ∷ []) ++ more ≡ whole → IsLegal (h ++ entry ∷ []) → low ≤ length h → P h → P (h ++ entry ∷ []))
    → (more seen : List Entry) → seen ++ more ≡ whole → low ≤ length seen → P seen → P whole
along P whole low legal step [] seen is le p = subst P (sym (append-nil seen) ∙ is) p
along P whole low legal step (entry ∷ more) seen is le p =
    let regrouped : (seen ++ entry ∷ []) ++ more ≡ whole = append_assoc seen (entry ∷ []) more ∙ is in
    let next : IsLegal (seen ++ entry ∷ []) = legal_before (seen ++ entry ∷ []) more (subst IsLegal (sym regrouped) legal) in
    let l = length-append seen (entry ∷ []) in
    along P whole low legal step more (seen ++ entry ∷ []) regrouped (omega (arith, l, le)) (step seen entry more regrouped next le p)

-- an edit that answers for what was seen answers for all
pub edit_later : (history seen : List Entry) (edit : InstalledEdit) → StartsWith history seen → IsLegal history → IsEditCovered seen edit → IsEditCovered history edit
edit_later history seen edit starts legal k = along (λ h. IsEditCovered h edit) history 0 legal (λ h entry more is next le p. edit_part h entry next edit p) starts.0 seen (sym starts.1) (omega arith) k

-- ---- look-ups in two lists

at_start : (xs ys : List Version) (key : List ℕ) (p : ℕ) (value : Option (List ℕ)) → version_at xs key p ≡ Some value → version_at (xs ++ ys) key p ≡ Some value
at_start [] ys key p value e = absurd cc
at_start (v ∷ xs) ys key p value e = by (bytes_eq v.key key && (v.number == p)) e (at_start xs ys key p value)
  where
    by : (b : Bool) → cond b (Some v.value) (version_at xs key p) ≡ Some value → (version_at xs key p ≡ Some value → version_at (xs ++ ys) key p ≡ Some value) → cond b (Some v.value) (version_at (xs ++ ys) key p) ≡ Some value
    by true e' rest = e'
    by false e' rest = rest e'

module _ (history pending : List Entry) (base : ℕ) (snapshots : Snapshots) (t : StoreState) (e : Installed) (k : IsStored history pending base snapshots t e) where
  of_history : (key : List ℕ) (p : ℕ) (value : Option (List ℕ)) → p ≤ length history → version_at t.memory key p ≡ Some value → entry_version history p key ≡ Some value
  of_history key p value le there = k.covered.part key p value (up_to_within (length history) (t.memory ++ t.tables) key p le ∙ at_start t.memory t.tables key p value there)

  -- ---- a flush

  module _ (memory tables : List Version) (n : KnowsMoved t e.last.flushed memory tables) where
    within : (key : List ℕ) (p : ℕ) → version_at (up_to (length history) (memory ++ tables)) key p ≡ version_at (up_to (length history) (t.memory ++ t.tables)) key p
    within key p = elim (cases_lt (length history) p) [
      | inr le ↦ up_to_within (length history) (memory ++ tables) key p le ∙ (n.same key p ∙ sym (up_to_within (length history) (t.memory ++ t.tables) key p le))
      | inl gt ↦ up_to_past (length history) (memory ++ tables) key p gt ∙ sym (up_to_past (length history) (t.memory ++ t.tables) key p gt)
    ]

    pub moved : IsStored history pending base snapshots (record t { memory = memory; tables = tables }) e
    moved = record {
      covered = covers_same (up_to (length history) (t.memory ++ t.tables)) (up_to (length history) (memory ++ tables)) history (base ∷ live_numbers snapshots) t.floor within k.covered;
      based = k.based;
      floor = k.floor;
      next = λ key p value lt there. let f = k.last.flushed in k.next key p value lt (sym (n.above key p (omega (arith, f, lt))) ∙ there);
      tables = λ key p value there. ⊎_elim (λ old. k.tables key p value old) (λ m. let f = k.last.flushed in let low = m.0 in of_history key p value (omega (arith, f, low)) m.1) (n.below key p value there);
      last = k.last;
      failed = k.failed;
      in_memory = λ key p value lt there. n.above key p lt ∙ k.in_memory key p value lt there;
    }

    pub next_stays : (key : List ℕ) → version_at memory key (suc (length history)) ≡ version_at t.memory key (suc (length history))
    next_stays key = let f = k.last.flushed in n.above key (suc (length history)) (omega (arith, f))

  -- ---- a compaction

  module _ (a : Actor) (tables : List Version) (floor : ℕ) (n : KnowsReplaced a t e.last.flushed base tables floor) (legal : IsLegal history) (starts : StartsWith history a.participant.seen) where
    -- what comes after the flushed number is in memory, and so is what comes after all that was seen
    shown : (key : List ℕ) (p : ℕ) (o : Option (Option (List ℕ))) → e.last.flushed < p → p ≤ length history → entry_version history p key ≡ o → version_at (t.memory ++ tables) key p ≡ o
    shown key p (Some value) lt le is = at_start t.memory tables key p value (k.in_memory key p value lt is)
    shown key p None lt le is =
        let none : version_at t.memory key p ≡ None = none_is (version_at t.memory key p) (λ v there. none_some (entry_version history p key) v is (of_history key p v le there)) in
        at_back t.memory tables key p none ∙ none_is (version_at tables key p) (λ v there. none_some (entry_version history p key) v is (k.tables key p v (n.part key p v there)))

    grown : (h : List Entry) (entry : Entry) (more : List Entry) → (h ++ entry ∷ []) ++ more ≡ history → IsLegal (h ++ entry ∷ []) → length a.participant.seen ≤ length h → IsCovered (up_to (length h) (t.memory ++ tables)) h n.listed floor
        → IsCovered (up_to (length (h ++ entry ∷ [])) (t.memory ++ tables)) (h ++ entry ∷ []) n.listed floor
    grown h entry more is next low c =
        let vs : List Version = t.memory ++ tables in let l = grown_length h entry next in let f = n.seen_floor in let g = n.seen_flushed in
        let whole : length (h ++ entry ∷ []) ≤ length history = let m = length-append (h ++ entry ∷ []) more in let q = ap length is in omega (arith, m, q) in
        covered_grows h entry next (up_to (length h) vs) (up_to (length (h ++ entry ∷ [])) vs) n.listed floor c (omega (arith, f, low))
        (λ key p le. up_to_within (length (h ++ entry ∷ [])) vs key p (omega (arith, l, le)) ∙ sym (up_to_within (length h) vs key p le))
        (λ key. up_to_within (length (h ++ entry ∷ [])) vs key (suc (length h)) (omega (arith, l))
        ∙ shown key (suc (length h)) (version_in (Some entry) key) (omega (arith, g, low)) (omega (arith, l, whole))
        (ap (λ x. entry_version x (suc (length h)) key) (sym is) ∙ (entry_version_old (h ++ entry ∷ []) more (suc (length h)) key (omega (arith, l)) ∙ version_new h entry next key)))
        (λ key p lt. up_to_past (length (h ++ entry ∷ [])) vs key p (omega (arith, l, lt)))
        floor (omega arith) (λ m among. let s = n.seen_listed m among in omega (arith, s, low))

    covered_now : IsCovered (up_to (length history) (t.memory ++ tables)) history n.listed floor
    covered_now = along (λ h. IsCovered (up_to (length h) (t.memory ++ tables)) h n.listed floor) history (length a.participant.seen) legal grown starts.0 a.participant.seen (sym starts.1) (omega arith) n.covered

    pub replaced : ((s : ℕ) → IsLive snapshots s → (is_among n.listed s ≡ true) ⊎ (floor ≤ s)) → ((s : ℕ) → IsLive snapshots s → s ≤ length history) → IsStored history pending base snapshots (record t { tables = tables; floor = floor }) e
    replaced listed low =
        let c = covered_now in record {
          covered = record {
            part = c.part;
            undecided = c.undecided;
            undone = c.undone;
            listed = λ key s among. ⊎_elim
                (λ same. c.listed key s (subst (λ (m : ℕ). is_among n.listed m ≡ true) (eqb-true base s same) n.base_listed))
                (λ there. let live : IsLive snapshots s = sym (among_live snapshots s) ∙ there in ⊎_elim (λ one. c.listed key s one) (λ high. c.later key s high (low s live)) (listed s live))
                (or_cases (base == s) (is_among (live_numbers snapshots) s) among);
            later = c.later;
          };
          based = k.based;
          floor = let f = n.seen_floor in let l = length-append a.participant.seen starts.0 in let q = ap length starts.1 in omega (arith, f, l, q);
          next = k.next;
          tables = λ key p value there. k.tables key p value (n.part key p value there);
          last = k.last;
          failed = k.failed;
          in_memory = k.in_memory;
        }

  -- ---- edits

  pub installed_now : (edit : InstalledEdit) → IsEditCovered history edit → e.last.flushed ≤ edit.flushed → IsStored history pending base snapshots t (record e { last = edit })
  installed_now edit covers rises = record {
    covered = k.covered;
    based = let b = k.based in omega (arith, rises, b);
    floor = k.floor;
    next = k.next;
    tables = k.tables;
    last = covers;
    failed = k.failed;
    in_memory = λ key p value lt there. k.in_memory key p value (omega (arith, rises, lt)) there;
  }

  pub halted_now : (edit : InstalledEdit) → IsEditCovered history edit → IsStored history pending base snapshots t (record e { failed = Some edit; halted = true })
  halted_now edit covers = record {
    covered = k.covered;
    based = k.based;
    floor = k.floor;
    next = k.next;
    tables = k.tables;
    last = k.last;
    failed = λ other f. let same : edit ≡ other = cc in subst (IsEditCovered history) same covers;
    in_memory = k.in_memory;
  }

  pub halted_only : IsStored history pending base snapshots t (record e { halted = true })
  halted_only = record { covered = k.covered; based = k.based; floor = k.floor; next = k.next; tables = k.tables; last = k.last; failed = k.failed; in_memory = k.in_memory }
