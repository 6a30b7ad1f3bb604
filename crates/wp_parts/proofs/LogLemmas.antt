-- What is so of a log, call by call.
use Rattle.std.proofs.Common.{◌≡◌, ◌≢◌, ◌⊎◌, inl, inr, ℕ, ◌+◌, ◌-◌, ◌<◌, ◌≤◌, Bool, true, false, true≢false, List, [], ◌∷◌, ◌++◌, length, take, Option, Some, None, IfSome, slice_index_or, if◌then◌else◌, refl, sym, ap, ◌∙◌, subst, append-nil, append_assoc, take_all, arith}
use Rattle.std.specs.List.{remove, AllByRecursion}
use Rattle.std.proofs.lemmas.Bool.{cases_Bool, cases_lt, eq-eqb, ne_eqb}
use Rattle.std.proofs.lemmas.List.{drop_all}
use Rattle.wp_model.specs.declared.entry.Entry.{Entry}
use Rattle.wp_model.specs.declared.entry.Entry.TheVariants as entry
use Rattle.wp_model.specs.declared.segment.Segment.{Segment}
use Rattle.wp_model.specs.History.{entry_at, is_prepare, is_undecided}
use Rattle.wp_model.specs.Legal.{IsLegal, IsLegalNext, undone_last}
use Rattle.wp_model.proofs.Entries.{entry_at_old, prepared_within, undecided_prepared, undecided_within}
use Rattle.wp_cuts.specs.Cut.{Cut, IsCut, carried_of, cut_at}
use Rattle.wp_cuts.proofs.Growing.{cut_again, cut_grows, entries_long}
use Rattle.wp_history_laws.proofs.Growth.{after_front, entry_at_next, legal_before, length_next}
use Rattle.wp_outside.specs.Disk.{Moment, IfKnown, images}
use Rattle.wp_outside.specs.Faults.{Rose}
use Rattle.wp_fields.specs.declared.format.Format.{Format}
use Rattle.wp_fields.specs.declared.format.Format.TheVariants.{Two}
use Rattle.wp_entry.specs.Base.{Base}
use Rattle.wp_entry.specs.Record.{FormRecord, IsRecord, IsEarlier, NamesEarlier, last_number}
use Rattle.wp_gatelog.specs.declared.log.AppendError.TheVariants.{DiskFault}
use Rattle.wp_gatelog.specs.Moments.{Leaves}
use Rattle.wp_gatelog.proofs.DurabilityLemmas.{preserves_on}
use Rattle.wp_wal.specs.Segment.{WrittenState, IsBeside, IsPlaceFor, base_of, cut_behind}
use Rattle.wp_wal.specs.Spelling.{IsLogAt, longer}
use Rattle.wp_wal.specs.Wal.{WalState, Reserved, LeavesCut, LosesNothingAt, StoresCut, IsReserved, Appended, Refuses, reserved_of}
use Rattle.wp_wal.proofs.AppendLemmas.{running_cut}
use Rattle.wp_model.specs.Record.{AreCommits, IsOneRecord}
use Rattle.wp_core.specs.Images.{MaySpell, LogTells}
use Rattle.wp_model.proofs.Tests.{none_some, same_some}
use Rattle.wp_parts.specs.Log.{Ending, format_at, log_state, open_ending, spelled, spells, with_next, with_segment, IsKept, IsLog, IsWaiting}

-- ---- devices

pub known_image : (P : List ℕ → Type 0) (moments : List Moment) (image : List ℕ) → images moments image → IfKnown moments (Leaves P) → P image
known_image P [] image at left = elim at [ ]
known_image P (m ∷ past) image at left = left image at

pub loses_on : (place : ℕ) (old mid new : List Moment) → LosesNothingAt place old mid → LosesNothingAt place mid new → LosesNothingAt place old new
loses_on place old mid new first second stamp records = preserves_on _ old mid new (first stamp records) (second stamp records)

pub rose_since : (first old new : ℕ) → first ≤ old → Rose old new → Rose first new
rose_since first old new later rose = omega (arith, later, rose)

-- ---- records

earlier : (history : List Entry) (p : ℕ) → is_undecided history p ≡ true → IsEarlier (length history + 1) p
earlier history p is = let within = undecided_within history p is in record { from = within.0; below = omega (arith, within.1) }

-- a Commit more prepares nothing
commit_prepares : (history : List Entry) (p q : ℕ) → is_prepare (entry_at (history ++ entry.Commit p ∷ []) q) ≡ true → is_prepare (entry_at history q) ≡ true
commit_prepares history p q is =
    let within = prepared_within (history ++ entry.Commit p ∷ []) q is in let long = length_next history (entry.Commit p) in
    elim (cases_lt (length history) q) [
      | inr le ↦ ap is_prepare (sym (entry_at_old history (entry.Commit p ∷ []) q le)) ∙ is
      | inl past ↦
          let last : q ≡ length history + 1 = omega (arith, within.1, long, past) in
          absurd (true≢false (sym is ∙ ap (λ (n : ℕ). is_prepare (entry_at (history ++ entry.Commit p ∷ []) n)) last ∙ ap is_prepare (entry_at_next history (entry.Commit p))))
    ]

-- what Commits name behind a history whose prepares have numbers up to this one
commits_earlier : (n : ℕ) (history commits : List Entry) → ((p : ℕ) → is_prepare (entry_at history p) ≡ true → (1 ≤ p) × (p ≤ n)) → AreCommits commits → IsLegal (history ++ commits) → AllByRecursion (NamesEarlier (n + 1)) commits
commits_earlier n history [] within are legal = tt
commits_earlier n history (entry.Commit p ∷ others) within are legal =
    let low = within p (undecided_prepared history p (after_front history (entry.Commit p) others legal).orderly.names_undecided) in (
      record { from = low.0; below = omega (arith, low.1) },
      commits_earlier n (history ++ entry.Commit p ∷ []) others (λ q is. within q (commit_prepares history p q is)) are (subst IsLegal (sym (append_assoc history (entry.Commit p ∷ []) others)) legal),
    )
commits_earlier n history others within are legal = absurd are

-- what is named in a record that may come next is in the history
earlier_next : (history entries : List Entry) → IsOneRecord entries → IsLegal (history ++ entries) → AllByRecursion (NamesEarlier (length history + 1)) entries
earlier_next history (entry.Write batch ∷ []) one legal = (tt, tt)
earlier_next history (entry.Prepare name batch ∷ []) one legal = (tt, tt)
earlier_next history (entry.Commit p ∷ others) one legal = commits_earlier (length history) history (entry.Commit p ∷ others) (prepared_within history) one.0 legal
earlier_next history (entry.Undo p batch ∷ entry.Close q ∷ []) one legal =
    let first = earlier history p (after_front history (entry.Undo p batch) (entry.Close q ∷ []) legal).orderly.names_undecided in
    (first, (subst (IsEarlier (length history + 1)) one first, tt))
earlier_next history others one legal = absurd one

-- one record that may come next, whose numbers are those of entries in this version, is one of it
pub form_next : (format : Format) (history entries : List Entry) → IsOneRecord entries → IsLegal (history ++ entries) → length history + length entries ≤ last_number format → FormRecord format (length history + 1) entries
form_next format history entries one legal within = record { one = one; earlier = earlier_next history entries one legal; numbered = omega (arith, within) }

-- ---- what the log spells

unlogged : (logged : Bool) (history pending : List Entry) → pending ≡ [] → spelled logged history pending ≡ history
unlogged false history pending none = refl
unlogged true history pending none = ap (λ (xs : List Entry). history ++ xs) none ∙ append-nil history

not_yet : (logged : Bool) (history pending : List Entry) → logged ≡ false → spelled logged history pending ≡ history
not_yet false history pending is = refl
not_yet true history pending is = absurd cc

-- the first of what is pending joins the history
joined_log : (logged : Bool) (history pending others : List Entry) (entry : Entry) → logged ≡ true → pending ≡ entry ∷ others → spelled logged history pending ≡ spelled logged (history ++ entry ∷ []) others
joined_log true history pending others entry is all = ap (λ (xs : List Entry). history ++ xs) all ∙ sym (append_assoc history (entry ∷ []) others)
joined_log false history pending others entry is all = absurd cc

first_rest : (pending : List Entry) (entry : Entry) → pending ≢ [] → entry ≡ slice_index_or pending 0 entry → pending ≡ entry ∷ remove pending 0
first_rest [] entry some is = absurd (some refl)
first_rest (e ∷ others) entry some is = λ i. sym is i ∷ others

-- the record of these entries is ready
abbrev with_record : WalState → List Entry → WalState
with_record wal entries = record wal { reserved = Some (reserved_of wal.format wal.due entries) }

stores_reserved : (wal : WalState) (c : Cut) (failed entries : List Entry) → StoresCut wal c failed → StoresCut (with_record wal entries) c failed
stores_reserved wal c failed entries k = record {
  records = k.records;
  front = k.front;
  dead = k.dead;
  readable = k.readable;
  begins = k.begins;
  spelled = k.spelled;
  begun = k.begun;
  counted = k.counted;
  based = k.based;
  numbered = k.numbered;
  rests = k.rests;
  left = k.left;
}

-- the cut at the end of a history, as a segment has it
cut_end : (history : List Entry) → cut_behind (base_of history) ≡ cut_at history (length history)
cut_end history =
    let all : take (length history) history ≡ history = take_all (length history) history (omega arith) in
    let none = drop_all (length history) history (omega arith) in
    λ i. record { base = length history; carried = carried_of (sym all i); entries = sym none i }

whole_cut : (history : List Entry) (base : ℕ) → base ≡ length history → undone_last history ≡ None → IsCut history (cut_at history base)
whole_cut history base is whole = cut_again history base (omega (arith, is)) (ap undone_last (take_all base history (omega (arith, is))) ∙ whole)

-- a history has one cut at a base
one_cut : (history : List Entry) (c d : Cut) → IsCut history c → IsCut history d → c.base ≡ d.base → c ≡ d
one_cut history c d one other same = one.is ∙ ap (cut_at history) same ∙ sym other.is

-- the version as it was opened, and above the base of then
form_first : (wal : WalState) → wal.format ≡ format_at wal wal.segment.base
form_first wal = sym (ap (λ (b : Bool). if b then wal.format else Two) (eq-eqb wal.segment.base wal.segment.base refl))

form_above : (first : WalState) (base : ℕ) → first.segment.base < base → format_at first base ≡ Two
form_above first base above = ap (λ (b : Bool). if b then first.format else Two) (ne_eqb base first.segment.base (λ is. omega (arith, is, above)))

-- as an opening gives it
pub new_kept : (wal : WalState) (history : List Entry) (base room : ℕ) (c : Cut) → base ≡ wal.segment.base → StoresCut wal c [] → IsCut history c → wal.closed ≡ false → IsLegal history
    → IsKept (log_state wal wal history [] false open_ending) base room
new_kept wal history base room c is stores cut running legal = record {
  opened = is;
  log = record {
    cut = c;
    is_cut = cut;
    segment = refl;
    stores = stores;
    legal = subst IsLegal (sym (append-nil history)) legal;
    none_failed = λ _. refl;
    whole = inl refl;
    none_waits = inl refl;
    beside = λ segment there. absurd (none_some None segment refl there);
    id = refl;
    form = form_first wal;
    risen = omega arith;
    later = omega arith;
    shut = λ closed. absurd (true≢false (sym closed ∙ running));
    by_fault = λ closed _. absurd cc;
    cause = λ closed. absurd (true≢false (sym closed ∙ running));
    unfailed = λ _. refl;
    ended = λ is. absurd cc;
    unclosed = λ _. running;
    durable = λ _ stamp records. ([], refl, tt);
  };
  ready = record { reserved = λ some. absurd (some refl); fits = omega arith };
}

-- ---- the calls

module _ (wal first : WalState) (history pending : List Entry) (logged : Bool) (ending : Ending) (base room : ℕ) (kept : IsKept (log_state wal first history pending logged ending) base room) where
  pub wal_runs : ending.closed ≡ false → wal.closed ≡ false
  wal_runs open_ = elim (cases_Bool wal.closed) [
    | inl closed ↦ absurd (true≢false (sym (kept.log.shut closed) ∙ open_))
    | inr running ↦ running
  ]

  no_next : ending.closed ≡ false → (segment : Segment) → ending.next ≡ Some segment → ⊥
  no_next open_ segment is = elim kept.log.none_waits [
    | inl none ↦ none_some ending.next segment none is
    | inr closed ↦ true≢false (sym closed ∙ open_)
  ]

  no_segment : ending.closed ≡ false → ending.next ≡ None
  no_segment open_ = elim kept.log.none_waits [
    | inl none ↦ none
    | inr closed ↦ absurd (true≢false (sym closed ∙ open_))
  ]

  -- what was acknowledged is so still, while the log is in the segment of then
  loses_since : (new : WalState) → new.segment ≡ wal.segment → LosesNothingAt wal.segment.place wal.moments new.moments
      → new.segment ≡ first.segment → LosesNothingAt first.segment.place first.moments new.moments
  loses_since new same durable is =
      let was : wal.segment ≡ first.segment = sym same ∙ is in
      loses_on first.segment.place first.moments wal.moments new.moments (kept.log.durable was) (subst (λ (g : Segment). LosesNothingAt g.place wal.moments new.moments) was durable)

  -- what is so of the cut that it stores is so of each with its base
  pub at_cut : (P : Cut → Type 0) → IsCut history kept.log.cut → P kept.log.cut → (c : Cut) → IsCut history c → c.base ≡ wal.segment.base → P c
  at_cut P mine k c cut based = subst P (one_cut history kept.log.cut c mine cut (kept.log.stores.based ∙ sym based)) k

  -- ---- its device was called, or it is stopped

  module _ (running : ending.closed ≡ false) (new : WalState) (later : wal.faults ≤ new.faults) (durable : LosesNothingAt wal.segment.place wal.moments new.moments) where
    -- it goes on in its segment
    goes_on : (now : Bool) (c : Cut) → new.segment ≡ wal.segment → new.id ≡ wal.id → new.format ≡ wal.format → new.closed ≡ wal.closed → new.faults ≡ wal.faults → IsCut (spelled now history pending) c → StoresCut new c []
        → (pending ≢ [] → now ≡ false → ending.closed ≡ false → IsReserved new c pending) → IsKept (log_state new first history pending now ending) base room
    goes_on now c same id format closed unfailed is stores ready =
        let open_ : new.closed ≡ false = closed ∙ wal_runs running in
        record {
          opened = kept.opened;
          log = record {
            cut = c;
            is_cut = is;
            segment = refl;
            stores = subst (λ (xs : List Entry). StoresCut new c xs) (sym (kept.log.none_failed running)) stores;
            legal = kept.log.legal;
            none_failed = λ _. kept.log.none_failed running;
            whole = inl (kept.log.none_failed running);
            none_waits = kept.log.none_waits;
            beside = λ segment there. absurd (no_next running segment there);
            id = id ∙ kept.log.id;
            form = format ∙ kept.log.form ∙ ap (λ (g : Segment). format_at first g.base) (sym same);
            risen = subst (λ (g : Segment). first.segment.base ≤ g.base) (sym same) kept.log.risen;
            later = omega (arith, kept.log.later, later);
            shut = λ shut. absurd (true≢false (sym shut ∙ open_));
            by_fault = λ shut. absurd (true≢false (sym shut ∙ running));
            cause = λ shut. absurd (true≢false (sym shut ∙ open_));
            unfailed = λ _. unfailed ∙ kept.log.unfailed (wal_runs running);
            ended = kept.log.ended;
            unclosed = λ _. open_;
            durable = loses_since new same durable;
          };
          ready = record { reserved = ready; fits = kept.ready.fits };
        }

    -- the device failed
    shuts : Refuses wal new DiskFault → (failed : List Entry) → StoresCut new kept.log.cut failed → (failed ≡ []) ⊎ ((new.closed ≡ true) × IsRecord new.format (length (spelled logged history pending) + 1) failed)
        → IsKept (log_state new first history pending logged (record { closed = true; stopped = ending.stopped; failed = failed; next = ending.next })) base room
    shuts refused failed stores whole =
        let changed = refused.2 in
        let same : new.segment ≡ wal.segment = ap (λ (w : WalState). w.segment) changed in
        record {
          opened = kept.opened;
          log = record {
            cut = kept.log.cut;
            is_cut = kept.log.is_cut;
            segment = refl;
            stores = stores;
            legal = kept.log.legal;
            none_failed = λ open_. absurd cc;
            whole = whole;
            none_waits = inr refl;
            beside = λ segment there. absurd (no_next running segment there);
            id = ap (λ (w : WalState). w.id) changed ∙ kept.log.id;
            form = ap (λ (w : WalState). w.format) changed ∙ kept.log.form ∙ ap (λ (g : Segment). format_at first g.base) (sym same);
            risen = subst (λ (g : Segment). first.segment.base ≤ g.base) (sym same) kept.log.risen;
            later = omega (arith, kept.log.later, later);
            shut = λ _. refl;
            by_fault = λ _ _. ap (λ (w : WalState). w.closed) changed;
            cause = λ _. rose_since first.faults wal.faults new.faults kept.log.later refused.1;
            unfailed = λ open_. let closed = ap (λ (w : WalState). w.closed) changed in absurd cc;
            ended = λ _. refl;
            unclosed = λ halted. absurd (true≢false (sym (kept.log.ended halted) ∙ running));
            durable = loses_since new same durable;
          };
          ready = record { reserved = λ _ _ open_. absurd cc; fits = kept.ready.fits };
        }

  -- it is stopped with this segment beside it, if one waits
  halts : (running : ending.closed ≡ false) (next : Option Segment) → ((segment : Segment) → next ≡ Some segment → (pending ≡ []) × (segment.base ≡ length history) × (undone_last history ≡ None) × IfKnown wal.moments (LeavesCut wal.id segment.place (cut_at history segment.base))) → pending ≡ []
      → IsKept (log_state wal first history pending logged (record { closed = true; stopped = true; failed = ending.failed; next = next })) base room
  halts running next beside nothing = record {
    opened = kept.opened;
    log = record {
      cut = kept.log.cut;
      is_cut = kept.log.is_cut;
      segment = refl;
      stores = kept.log.stores;
      legal = kept.log.legal;
      none_failed = λ open_. absurd cc;
      whole = kept.log.whole;
      none_waits = inr refl;
      beside = beside;
      id = kept.log.id;
      form = kept.log.form;
      risen = kept.log.risen;
      later = kept.log.later;
      shut = λ _. refl;
      by_fault = λ _ unstopped. absurd cc;
      cause = kept.log.cause;
      unfailed = kept.log.unfailed;
      ended = λ _. refl;
      unclosed = λ _. wal_runs running;
      durable = kept.log.durable;
    };
    ready = record { reserved = λ some. absurd (some nothing); fits = kept.ready.fits };
  }

  -- the log is stopped without one
  pub stopped : ending.closed ≡ false → pending ≡ [] → IsKept (log_state wal first history pending logged (record ending { closed = true; stopped = true })) base room
  stopped running = halts running ending.next kept.log.beside

  -- nothing is pending
  module _ (none : pending ≡ []) where
    log_is : spelled logged history pending ≡ history
    log_is = unlogged logged history pending none

    pub cut_is : IsCut history kept.log.cut
    cut_is = subst (λ (xs : List Entry). IsCut xs kept.log.cut) log_is kept.log.is_cut

    pub due_is : wal.due ≡ length history + 1
    due_is =
        let long : length history ≡ kept.log.cut.base + length kept.log.cut.entries = entries_long history kept.log.cut cut_is in
        let next : wal.due ≡ kept.log.cut.base + length kept.log.cut.entries + 1 = kept.log.stores.numbered in
        omega (arith, long, next)

    -- the entries may come next
    module _ (entries : List Entry) (legal : IsLegal (history ++ entries)) where
      pub form_due : IsOneRecord entries → length history + length entries ≤ last_number wal.format → FormRecord wal.format wal.due entries
      form_due one within = rw due_is (form_next wal.format history entries one legal within)

      still_stored : StoresCut (with_record wal entries) kept.log.cut ending.failed
      still_stored = stores_reserved wal kept.log.cut ending.failed entries kept.log.stores

      pub made_pending : (ready : WalState) (more : ℕ) → ending.closed ≡ false → ready ≡ with_record wal entries → IsRecord wal.format wal.due entries → length entries ≤ more
          → IsKept (log_state ready first history entries false ending) base more
      made_pending ready more running is record_is few = subst (λ (w : WalState). IsKept (log_state w first history entries false ending) base more) (sym is) record {
        opened = kept.opened;
        log = record {
          cut = kept.log.cut;
          is_cut = cut_is;
          segment = refl;
          stores = still_stored;
          legal = legal;
          none_failed = kept.log.none_failed;
          whole = inl (kept.log.none_failed running);
          none_waits = kept.log.none_waits;
          beside = λ segment is. absurd (no_next running segment is);
          id = kept.log.id;
          form = kept.log.form;
          risen = kept.log.risen;
          later = kept.log.later;
          shut = kept.log.shut;
          by_fault = kept.log.by_fault;
          cause = kept.log.cause;
          unfailed = kept.log.unfailed;
          ended = kept.log.ended;
          unclosed = kept.log.unclosed;
          durable = kept.log.durable;
        };
        ready = record {
          reserved = λ some not_logged open_. record { stores = subst (λ (xs : List Entry). StoresCut (with_record wal entries) kept.log.cut xs) (kept.log.none_failed running) still_stored; running = wal_runs running; is = record_is; reserved = refl };
          fits = few;
        };
      }

  -- what is pending is dropped
  pub dropped : (nothing : List Entry) → nothing ≡ [] → logged ≡ false → IsKept (log_state wal first history nothing logged ending) base room
  dropped nothing none not_logged = subst (λ (xs : List Entry). IsKept (log_state wal first history xs logged ending) base room) (sym none) record {
    opened = kept.opened;
    log = record {
      cut = kept.log.cut;
      is_cut = subst (λ (xs : List Entry). IsCut xs kept.log.cut) same kept.log.is_cut;
      segment = refl;
      stores = kept.log.stores;
      legal = subst IsLegal (sym (append-nil history)) (legal_before history pending kept.log.legal);
      none_failed = kept.log.none_failed;
      whole = subst (λ (xs : List Entry). (ending.failed ≡ []) ⊎ ((wal.closed ≡ true) × IsRecord wal.format (length xs + 1) ending.failed)) same kept.log.whole;
      none_waits = kept.log.none_waits;
      beside = λ segment is. let b = kept.log.beside segment is in (refl, b.1, b.2, b.3);
      id = kept.log.id;
      form = kept.log.form;
      risen = kept.log.risen;
      later = kept.log.later;
      shut = kept.log.shut;
      by_fault = kept.log.by_fault;
      cause = kept.log.cause;
      unfailed = kept.log.unfailed;
      ended = kept.log.ended;
      unclosed = kept.log.unclosed;
      durable = kept.log.durable;
    };
    ready = record { reserved = λ some. absurd (some refl); fits = omega arith };
  }
    where
      same : spelled logged history pending ≡ spelled logged history []
      same = not_yet logged history pending not_logged ∙ sym (not_yet logged history [] not_logged)

  -- the first of the pending entries joins the history
  pub published : (entry : Entry) (others now : List Entry) (at more : ℕ) → logged ≡ true → pending ≢ [] → entry ≡ slice_index_or pending 0 entry → others ≡ remove pending 0 → now ≡ history ++ entry ∷ [] → at ≡ base → more ≡ room - 1
      → IsKept (log_state wal first now others logged ending) at more
  published entry others now at more is_logged some is left grown at_base fewer = rw (grown, at_base) record {
    opened = kept.opened;
    log = record {
      cut = kept.log.cut;
      is_cut = subst (λ (xs : List Entry). IsCut xs kept.log.cut) same kept.log.is_cut;
      segment = refl;
      stores = kept.log.stores;
      legal = subst IsLegal (ap (λ (xs : List Entry). history ++ xs) all ∙ sym (append_assoc history (entry ∷ []) others)) kept.log.legal;
      none_failed = kept.log.none_failed;
      whole = subst (λ (xs : List Entry). (ending.failed ≡ []) ⊎ ((wal.closed ≡ true) × IsRecord wal.format (length xs + 1) ending.failed)) same kept.log.whole;
      none_waits = kept.log.none_waits;
      beside = λ segment there. absurd (some (kept.log.beside segment there).0);
      id = kept.log.id;
      form = kept.log.form;
      risen = kept.log.risen;
      later = kept.log.later;
      shut = kept.log.shut;
      by_fault = kept.log.by_fault;
      cause = kept.log.cause;
      unfailed = kept.log.unfailed;
      ended = kept.log.ended;
      unclosed = kept.log.unclosed;
      durable = kept.log.durable;
    };
    ready = record {
      reserved = λ rest unlogged_ open_. absurd (true≢false (sym is_logged ∙ unlogged_));
      fits = omega (arith, ap length all, kept.ready.fits, fewer);
    };
  }
    where
      all : pending ≡ entry ∷ others
      all = first_rest pending entry some is ∙ ap (λ (xs : List Entry). entry ∷ xs) (sym left)

      same : spelled logged history pending ≡ spelled logged (history ++ entry ∷ []) others
      same = joined_log logged history pending others entry is_logged all

  -- the pending record was given to the log
  module _ (running : ending.closed ≡ false) (some : pending ≢ []) (not_logged : logged ≡ false) where
    pub is_reserved : IsReserved wal kept.log.cut pending
    is_reserved = kept.ready.reserved some not_logged running

    reserved_is : wal.reserved ≡ Some (reserved_of wal.format wal.due pending)
    reserved_is = is_reserved.reserved

    pub cut_was : IsCut history kept.log.cut
    cut_was = subst (λ (xs : List Entry). IsCut xs kept.log.cut) (not_yet logged history pending not_logged) kept.log.is_cut

    module _ (new : WalState) (later : wal.faults ≤ new.faults) (durable : LosesNothingAt wal.segment.place wal.moments new.moments) where
      is_appended : IfSome wal.reserved (Appended wal new) → Appended wal new (reserved_of wal.format wal.due pending)
      is_appended ok = subst (λ (o : Option Reserved). IfSome o (Appended wal new)) reserved_is ok

      pub appended : IfSome wal.reserved (Appended wal new) → StoresCut new (longer kept.log.cut pending) [] → IsKept (log_state new first history pending true ending) base room
      appended ok stores =
          let changed = (is_appended ok).changed in
          goes_on running new later durable true (longer kept.log.cut pending) (ap (λ (w : WalState). w.segment) changed) (ap (λ (w : WalState). w.id) changed) (ap (λ (w : WalState). w.format) changed) (ap (λ (w : WalState). w.closed) changed) (ap (λ (w : WalState). w.faults) changed)
          (cut_grows history pending kept.log.cut cut_was) stores (λ _ unlogged_ _. absurd cc)

      pub appended_faults : IfSome wal.reserved (Appended wal new) → new.faults ≡ wal.faults
      appended_faults ok = ap (λ (w : WalState). w.faults) (is_appended ok).changed

      pub appended_count : IfSome wal.reserved (Appended wal new) → new.count ≡ wal.count + 1
      appended_count ok = ap (λ (w : WalState). w.count) (is_appended ok).changed

      pub appended_table : IfSome wal.reserved (Appended wal new) → (log_state new first history pending true ending).state ≡ record (log_state wal first history pending logged ending).state { logged = true; log = spelled logged history pending ++ pending }
      appended_table ok =
          let same : new.segment ≡ wal.segment = ap (λ (w : WalState). w.segment) (is_appended ok).changed in
          let joined : history ++ pending ≡ spelled logged history pending ++ pending = sym (ap (λ (xs : List Entry). xs ++ pending) (not_yet logged history pending not_logged)) in
          λ i. record { history = history; pending = pending; logged = true; log = joined i; closed = ending.closed; stopped = ending.stopped; failed = ending.failed; segment = same i; next = ending.next }

      pub closed_table : (record_ : List Entry) → record_ ≡ pending → Refuses wal new DiskFault
          → (log_state new first history pending logged (record { closed = true; stopped = ending.stopped; failed = record_; next = ending.next })).state ≡ record (log_state wal first history pending logged ending).state { closed = true; failed = pending }
      closed_table record_ equal refused =
          let same : new.segment ≡ wal.segment = ap (λ (w : WalState). w.segment) refused.2 in
          λ i. record { history = history; pending = pending; logged = logged; log = spelled logged history pending; closed = true; stopped = ending.stopped; failed = equal i; segment = same i; next = ending.next }

      pub closed_now : (record_ : List Entry) → record_ ≡ pending → Refuses wal new DiskFault → StoresCut new kept.log.cut pending
          → IsKept (log_state new first history pending logged (record { closed = true; stopped = ending.stopped; failed = record_; next = ending.next })) base room
      closed_now record_ equal refused stores =
          subst (λ (xs : List Entry). IsKept (log_state new first history pending logged (record { closed = true; stopped = ending.stopped; failed = xs; next = ending.next })) base room) (sym equal)
          (shuts running new later durable refused pending stores (inr (ap (λ (w : WalState). w.closed) refused.2, record_is)))
        where
          record_is : IsRecord new.format (length (spelled logged history pending) + 1) pending
          record_is =
              let long : length (spelled logged history pending) ≡ kept.log.cut.base + length kept.log.cut.entries = entries_long (spelled logged history pending) kept.log.cut kept.log.is_cut in
              let next : wal.due ≡ kept.log.cut.base + length kept.log.cut.entries + 1 = kept.log.stores.numbered in
              let due : wal.due ≡ length (spelled logged history pending) + 1 = omega (arith, long, next) in
              subst (λ (f : Format). IsRecord f (length (spelled logged history pending) + 1) pending) (sym (ap (λ (w : WalState). w.format) refused.2)) (subst (λ (n : ℕ). IsRecord wal.format n pending) due is_reserved.is)

  -- ---- a segment

  -- a segment was written beside it, while nothing is pending
  module _ (running : ending.closed ≡ false) (nothing : pending ≡ []) where
    stores_now : StoresCut wal kept.log.cut []
    stores_now = subst (λ (xs : List Entry). StoresCut wal kept.log.cut xs) (kept.log.none_failed running) kept.log.stores

    -- what it leaves of any cut that is stored, it leaves of this one
    pub of_stored : {B W : Type 0} {P : Cut → Type 0} → ((c : Cut) → StoresCut wal c [] → B → W → P c) → B → W → P kept.log.cut
    of_stored writes base whole = writes kept.log.cut stores_now base whole

    module _ (new : WalState) (later : wal.faults ≤ new.faults) (durable : LosesNothingAt wal.segment.place wal.moments new.moments) where
      pub written : new ≡ record wal { moments = new.moments; reserved = None } → StoresCut new kept.log.cut [] → IsKept (log_state new first history pending logged ending) base room
      written changed stores =
          goes_on running new later durable logged kept.log.cut (ap (λ (w : WalState). w.segment) changed) (ap (λ (w : WalState). w.id) changed) (ap (λ (w : WalState). w.format) changed) (ap (λ (w : WalState). w.closed) changed) (ap (λ (w : WalState). w.faults) changed)
          kept.log.is_cut stores (λ some. absurd (some nothing))

      -- the device failed meanwhile
      pub unwritten : Refuses wal new DiskFault → StoresCut new kept.log.cut [] → IsKept (log_state new first history pending logged (record ending { closed = true })) base room
      unwritten refused stores =
          let none = kept.log.none_failed running in
          shuts running new later durable refused ending.failed (subst (λ (xs : List Entry). StoresCut new kept.log.cut xs) (sym none) stores) (inl none)

    -- it waits
    module _ (w : WrittenState) (waits : IsWaiting (log_state wal first history pending logged ending) w) where
      -- it is in use from now on
      pub used : (new : WalState) → new ≡ record wal { format = Two; end = w.end; count = 1; segment = w.segment; reserved = None } → StoresCut new (cut_at history (length history)) []
          → IsKept (log_state new first history pending logged ending) base room
      used new changed stores =
          let open_ : new.closed ≡ false = ap (λ (x : WalState). x.closed) changed ∙ wal_runs running in
          let same : new.segment ≡ w.segment = ap (λ (x : WalState). x.segment) changed in
          let at : new.segment.base ≡ length history = ap (λ (g : Segment). g.base) same ∙ waits.based in
          let above : wal.segment.base < w.segment.base = waits.below in
          let risen : first.segment.base ≤ wal.segment.base = kept.log.risen in
          let based : w.segment.base ≡ length history = waits.based in
          record {
            opened = kept.opened;
            log = record {
              cut = cut_at history (length history);
              is_cut = subst (λ (xs : List Entry). IsCut xs (cut_at history (length history))) (sym (log_is nothing)) (whole_cut history (length history) refl waits.whole);
              segment = refl;
              stores = subst (λ (xs : List Entry). StoresCut new (cut_at history (length history)) xs) (sym (kept.log.none_failed running)) stores;
              legal = kept.log.legal;
              none_failed = λ _. kept.log.none_failed running;
              whole = inl (kept.log.none_failed running);
              none_waits = kept.log.none_waits;
              beside = λ segment is. absurd (no_next running segment is);
              id = ap (λ (x : WalState). x.id) changed ∙ kept.log.id;
              form = ap (λ (x : WalState). x.format) changed ∙ sym (form_above first new.segment.base (omega (arith, at, above, risen, based)));
              risen = omega (arith, at, above, risen, based);
              later = subst (λ (n : ℕ). first.faults ≤ n) (sym (ap (λ (x : WalState). x.faults) changed)) kept.log.later;
              shut = λ closed. absurd (true≢false (sym closed ∙ open_));
              by_fault = λ closed. absurd (true≢false (sym closed ∙ running));
              cause = λ closed. absurd (true≢false (sym closed ∙ open_));
              unfailed = λ _. ap (λ (x : WalState). x.faults) changed ∙ kept.log.unfailed (wal_runs running);
              ended = kept.log.ended;
              unclosed = λ _. open_;
              durable = λ is. let there : new.segment.base ≡ first.segment.base = ap (λ (g : Segment). g.base) is in absurd (omega (arith, at, above, risen, based, there));
            };
            ready = record { reserved = λ some. absurd (some nothing); fits = kept.ready.fits };
          }

      pub used_table : (new : WalState) → new ≡ record wal { format = Two; end = w.end; count = 1; segment = w.segment; reserved = None }
          → (log_state new first history pending logged ending).state ≡ with_segment (log_state wal first history pending logged ending).state w.segment
      used_table new changed =
          let same : new.segment ≡ w.segment = ap (λ (x : WalState). x.segment) changed in
          let none : ending.next ≡ None = no_segment running in
          λ i. record { history = history; pending = pending; logged = logged; log = spelled logged history pending; closed = ending.closed; stopped = ending.stopped; failed = ending.failed; segment = same i; next = none i }

      -- the log is stopped with it
      pub stopped_with : (next : Option Segment) → next ≡ Some w.segment → IsKept (log_state wal first history pending logged (record { closed = true; stopped = true; failed = ending.failed; next = next })) base room
      stopped_with next is = halts running next (λ segment there.
          subst (λ (g : Segment). (pending ≡ []) × (g.base ≡ length history) × (undone_last history ≡ None) × IfKnown wal.moments (LeavesCut wal.id g.place (cut_at history g.base)))
          (same_some w.segment segment (sym is ∙ there))
          (nothing, waits.based, waits.whole, subst (λ (n : ℕ). IfKnown wal.moments (LeavesCut wal.id w.segment.place (cut_at history n))) (sym waits.based) waits.beside.left)) nothing

-- ---- the first of the pending entries

pub first_follows : (history pending : List Entry) (entry : Entry) → pending ≢ [] → entry ≡ slice_index_or pending 0 entry → IsLegal (history ++ pending) → IsLegalNext history entry
first_follows history [] entry some is legal = absurd (some refl)
first_follows history (e ∷ others) entry some is legal = subst (λ (x : Entry). IsLegalNext history x) (sym is) (after_front history e others legal)

-- ---- what a crash leaves

-- the history in a segment that begins where it ends
beside_tells : (history : List Entry) (id : ℕ) (moments : List Moment) (segment : Segment) → segment.base ≡ length history → undone_last history ≡ None → IfKnown moments (LeavesCut id segment.place (cut_at history segment.base))
    → (image : List ℕ) → images moments image → (c : Cut) × IsLogAt id segment.place c image × IsCut history c × (c.base ≡ segment.base)
beside_tells history id moments segment based whole left image at = (cut_at history segment.base, (known_image _ moments image at left).0, whole_cut history segment.base based whole, refl)

module _ (wal first : WalState) (history pending : List Entry) (logged : Bool) (ending : Ending) (log : IsLog (log_state wal first history pending logged ending)) where
  in_use : (image : List ℕ) → images wal.moments image
      → (entries : List Entry) × spells (log_state wal first history pending logged ending) wal.segment image entries × MaySpell (log_state wal first history pending logged ending).state entries
  in_use image at = elim (cases_Bool wal.closed) [
    | inl closed ↦ elim (known_image _ wal.moments image at (log.stores.left closed)).0 [
      | inl before ↦ (spelled logged history pending, (log.cut, before, log.is_cut, log.stores.based), inl refl)
      | inr after ↦ (spelled logged history pending ++ ending.failed, (longer log.cut ending.failed, after, cut_grows (spelled logged history pending) ending.failed log.cut log.is_cut, log.stores.based), inr (log.shut closed, refl))
    ]
    | inr open_ ↦ (spelled logged history pending, (log.cut, (known_image _ wal.moments image at (running_cut wal log.cut ending.failed log.stores open_)).0, log.is_cut, log.stores.based), inl refl)
  ]

  pub log_tells : LogTells (images wal.moments) (spells (log_state wal first history pending logged ending)) (log_state wal first history pending logged ending).state
  log_tells image at = (in_use image at, λ segment is. let b = log.beside segment is in beside_tells history wal.id wal.moments segment b.1 b.2 b.3 image at)

  -- ... and in a segment that waits
  pub waiting_tells : (w : WrittenState) → IsWaiting (log_state wal first history pending logged ending) w
      → LogTells (images wal.moments) (spells (log_state wal first history pending logged ending)) (with_next (log_state wal first history pending logged ending).state w.segment)
  waiting_tells w waits image at = (
    in_use image at,
    λ segment is.
        subst (λ (g : Segment). spells (log_state wal first history pending logged ending) g image history) (same_some w.segment segment is)
        (beside_tells history wal.id wal.moments w.segment waits.based waits.whole (subst (λ (n : ℕ). IfKnown wal.moments (LeavesCut wal.id w.segment.place (cut_at history n))) (sym waits.based) waits.beside.left) image at),
  )

-- what was written behind the base of the history waits beside the log
waits_beside : (s : WalState) (history : List Entry) (w : WrittenState) → IsBeside s (cut_behind (base_of history)) w → IsBeside s (cut_at history (length history)) w
waits_beside s history w beside = subst (λ (c : Cut). IsBeside s c w) (cut_end history) beside

-- before the log in use, if there is room for so many bytes
pub before_log : (used size place : ℕ) → IsPlaceFor used size place → size ≤ used → place ≡ 0
before_log used size place (inl before) fits = before.1
before_log used size place (inr behind) fits = absurd (omega (arith, behind.0, fits))

pub waits_of : (wal first : WalState) (history pending : List Entry) (logged : Bool) (ending : Ending) (new : WalState) (w : WrittenState) → new ≡ record wal { moments = new.moments; reserved = None }
    → (asked : Base) → asked ≡ base_of history → w.segment.base ≡ asked.number → undone_last history ≡ None → wal.segment.base < length history → IsBeside new (cut_behind asked) w
    → IsWaiting (log_state new first history pending logged ending) w
waits_of wal first history pending logged ending new w changed asked is based whole below beside =
    let at : w.segment.base ≡ length history = based ∙ ap (λ (b : Base). b.number) is in
    let same : new.segment.base ≡ wal.segment.base = ap (λ (x : WalState). x.segment.base) changed in
    record {
      based = at;
      whole = whole;
      below = omega (arith, at, same, below);
      beside = waits_beside new history w (subst (λ (b : Base). IsBeside new (cut_behind b) w) is beside);
    }
