-- What one round of a compaction leaves of its seat, and what rounds one after another leave.
use Rattle.std.proofs.Common.{◌≡◌, ◌⊎◌, inl, inr, ℕ, ◌≤◌, true, false, List, [], ◌∷◌, ◌++◌, append-nil, length, take, drop, refl, sym, subst, ap, ◌∙◌, Option, Some, None, arith}
use Rattle.std.specs.Prelude.{Result, Ok, Err}
use Rattle.std.proofs.lemmas.List.{take-append-drop}
use Rattle.wp_model.specs.declared.entry.Entry.{Entry}
use Rattle.wp_model.specs.declared.version.Version.{Version}
use Rattle.wp_model.specs.Decision as decision
use Rattle.wp_model.specs.Flushed.{first_segment}
use Rattle.wp_keep.specs.declared.pair.Pair.{Pair}
use Rattle.wp_keep.specs.Keep.{is_committed, retained_of}
use Rattle.wp_model.specs.Legal.{IsLegal}
use Rattle.wp_history_laws.proofs.Growth.{legal_before}
use Rattle.wp_replies.specs.Tables.{listed, retained, after_compaction}
use Rattle.wp_core.specs.Lists.{IsIn}
use Rattle.wp_core.specs.Reading.{Registration}
use Rattle.wp_core.specs.Sound.Actors.{StartsWith}
use Rattle.wp_core.specs.States.{Installed, installed}
use Rattle.wp_core.specs.Turns.{tables_turn}
use Rattle.wp_core.specs.Views.{Event, tables_failed, live_listed}
use Rattle.wp_core.specs.Views as event
use Rattle.wp_core.specs.World.{Participant, Actor}
use Rattle.wp_rule.specs.Words.{IsAt}
use Rattle.wp_shared.specs.Calls.{GoesOnAs, Continues, with_events}
use Rattle.wp_shared.specs.Notes.{no_fact, is_under, seeing}
use Rattle.wp_shared.specs.Seats.{SharedState, SeatState, IsFree, place_at}
use Rattle.wp_shared.specs.Turns.{Taken, Given}
use Rattle.wp_shared.proofs.Onward.{starts_on, starts_same, loose_none, loose_under, goes_same, goes_still, goes_free, goes_of, continues_then, continues_still}
use Rattle.wp_read.specs.Registers.{IsPinned, numbers_of}
use Rattle.wp_maint.specs.declared.done.Done.{Done}
use Rattle.wp_maint.specs.declared.error.MaintError.{MaintError}
use Rattle.wp_maint.specs.declared.error.MaintError.TheVariants.{Memory, Nothing, TableFault, TablesStopped}
use Rattle.wp_maint.specs.Calls.{KeepsEach, found_by}
use Rattle.wp_compact.specs.Calls.{CompactsFrom, Compacts, FewTables, HasPinned}
use Rattle.wp_compact.specs.declared.decided.Bases.{Bases}
use Rattle.wp_compact.specs.Compaction.{AreLow, HadDecision, HasDecided, IsDecision, IsPin, KnowsLive, MayMerge, EndsRoundFrom, EndsRound}
use Rattle.wp_compact.specs.Decided.{ArePinned, Decides, both_bases, version_numbers}
use Rattle.wp_maint.specs.Finding.{Remembers}
use Rattle.wp_compact.proofs.BeforeInstall.{each_between, each_then}
use Rattle.wp_compact.proofs.Covering.{committed_true, committed_only, committed_whole, committed_front}
use Rattle.wp_compact.proofs.Decisions.{decided_same, in_either, in_front, in_back, same_bool}
use Rattle.wp_maint.proofs.Onward.{goes_more, goes_is, IsSeat, seat_still}
use Rattle.wp_compact.proofs.Onward.{decision_between, compacts_so, ends_so}
use Rattle.wp_compact.proofs.Pinning.{in_middle, pinned_low, take_seen, take_grown, grown_length}
use Rattle.wp_compact.proofs.Replaces.{length_front, number_in}
use Rattle.wp_compact.proofs.Retained.{retained_same}
use Rattle.wp_compact.proofs.StillTabled.{decided_still, live_later}

-- the tables that are told of where none were found
pub no_tables : Installed
no_tables = record { last = record { segment = first_segment; flushed = 0; versions = []; tables = 0 }; failed = None; halted = false }

-- ---- what was pinned

behind : (r x : Registration) (front live : List Registration) → IsIn r live → IsIn r (front ++ x ∷ live)
behind r x [] live there = inr there
behind r x (y ∷ front) live there = inr (behind r x front live there)

module _ {D : Type 0} (z : SharedState D) (s t : SeatState) (floor : Registration) (live : List Registration) (registered : t.knows.participant.registered ≡ s.knows.participant.registered ++ floor ∷ live) where
  pub floor_registered : IsIn floor t.knows.participant.registered
  floor_registered = subst (IsIn floor) (sym registered) (in_middle floor s.knows.participant.registered live)

  pub knows_live : floor.number ≡ length t.knows.participant.seen → IsPinned z s t.knows.participant.seen floor live → IsIn (live_listed floor.number (numbers_of live)) t.knows.notes → KnowsLive t.knows floor.number live
  knows_live number pinned listed = record {
    within = omega (arith, number);
    registered = λ r there. (subst (IsIn r) (sym registered) (behind r floor s.knows.participant.registered live there), pinned_low z s t.knows.participant.seen floor live pinned r there);
    listed = listed;
  }

-- ---- what was decided

pub are_pinned : (a : Actor) (floor : Registration) (live : List Registration) → IsIn floor a.participant.registered → floor.number ≡ length a.participant.seen → KnowsLive a floor.number live → ArePinned a.participant (floor ∷ live)
are_pinned a floor live there number k r (inl same) = subst (λ (x : Registration). IsIn x a.participant.registered × (x.number ≤ length a.participant.seen)) same (there, omega (arith, number))
are_pinned a floor live there number k r (inr rest) = let l = (k.registered r rest).1 in ((k.registered r rest).0, omega (arith, l, number))

-- each pinned number was seen
pub numbers_low : (p : Participant) (pinned : List Registration) → ArePinned p pinned → (n : ℕ) → IsIn n (numbers_of pinned) → n ≤ length p.seen
numbers_low p [] are n none = absurd none
numbers_low p (r ∷ pinned) are n (inl same) = subst (λ (m : ℕ). m ≤ length p.seen) same (are r (inl refl)).1
numbers_low p (r ∷ pinned) are n (inr rest) = numbers_low p pinned (λ x there. are x (inr there)) n rest

pub has_decided : {D : Type 0} (z : SharedState D) (s d : SeatState) (floor : Registration) (live : List Registration) (bases : Bases) (versions : List Version) (pairs : List Pair) → Continues z s d s.knows.participant → KnowsLive s.knows floor.number live → AreLow d.knows.participant.seen floor.number live bases
    → Decides d.knows.participant.seen (version_numbers versions) (numbers_of (floor ∷ live) ++ both_bases bases) [] pairs → HasDecided d.knows floor live bases versions pairs
has_decided z s d floor live bases versions pairs first k low decided = record {
  live_is = live_later s.knows d.knows floor.number live k first.participant first.seen (first.notes (live_listed floor.number (numbers_of live)) refl k.listed);
  low = low;
  history = d.knows.participant.seen;
  grown = starts_same d.knows.participant.seen;
  within = let w = k.within in let l = grown_length s.knows.participant.seen d.knows.participant.seen first.seen in omega (arith, w, l);
  decided = decided;
}

-- what is kept by what was decided is what the history retains
pub kept_retained : (a : Actor) (e : Installed) (floor : Registration) (live : List Registration) (bases : Bases) (versions : List Version) (pairs : List Pair) → HasDecided a floor live bases versions pairs → MayMerge a e floor.number live bases → versions ≡ e.last.versions → (kept : List Version)
    → kept ≡ retained_of (is_committed pairs) versions (listed (numbers_of live) bases.opened e.last) floor.number → kept ≡ retained (take floor.number a.participant.seen) (listed (numbers_of live) bases.opened e.last) e.last
kept_retained a e floor live bases versions pairs k may same kept is =
    let long : floor.number ≡ length front = sym (length_front floor.number a.participant.seen k.live_is.within) in
    is
    ∙ retained_same (is_committed pairs) (decision.is_committed front) versions numbers floor.number (λ v there n among. committed_same v there n (decided_at n among))
    ∙ (λ i. retained_of (decision.is_committed front) (same i) numbers (long i))
  where
    front : List Entry
    front = take floor.number a.participant.seen

    numbers : List ℕ
    numbers = listed (numbers_of live) bases.opened e.last

    all : List ℕ
    all = numbers_of (floor ∷ live) ++ both_bases bases

    legal : IsLegal k.history
    legal = legal_before k.history k.grown.0 (subst IsLegal k.grown.1 may.legal)

    starts : StartsWith k.history front
    starts = subst (StartsWith k.history) (sym (take_grown floor.number k.history a.participant.seen k.within k.grown)) (drop floor.number k.history, sym (take-append-drop floor.number k.history))

    front_long : length front ≡ floor.number
    front_long = length_front floor.number a.participant.seen k.live_is.within

    -- each listed number is one at which it was decided, and none is above the floor
    decided_at : (n : ℕ) → IsIn n (floor.number ∷ numbers) → IsIn n all × (n ≤ floor.number)
    decided_at n (inl at) = subst (λ (m : ℕ). IsIn m all × (m ≤ floor.number)) at (inl refl, omega arith)
    decided_at n (inr there) = elim (in_either n (numbers_of live) (bases.opened ∷ e.last.segment.base ∷ []) there) [
      | inl one ↦ (inr (in_front n (numbers_of live) (both_bases bases) one), let r = number_in live n one in subst (λ (m : ℕ). m ≤ floor.number) r.is (k.live_is.registered r.r r.there).1)
      | inr (inl one) ↦ (in_back n (numbers_of (floor ∷ live)) (both_bases bases) (inl one), subst (λ (m : ℕ). m ≤ floor.number) one may.low.0)
      | inr (inr (inl one)) ↦ subst (λ (m : ℕ). IsIn m all × (m ≤ floor.number)) one (of_base may.based, may.low.1)
      | inr (inr (inr none)) ↦ absurd none
    ]
      where
        of_base : (e.last.segment.base ≡ bases.installed) ⊎ (e.last.segment.base ≡ floor.number) → IsIn e.last.segment.base all
        of_base (inl same) = in_back e.last.segment.base (numbers_of (floor ∷ live)) (both_bases bases) (inr (inl (sym same)))
        of_base (inr same) = inl (sym same)

    committed_same : (v : Version) → IsIn v versions → (n : ℕ) → IsIn n all × (n ≤ floor.number) → is_committed pairs v.number n ≡ decision.is_committed front v.number n
    committed_same v there n (among, low) =
        decided_same k.history versions all pairs k.decided v there n among
        ∙ same_bool (decision.is_committed k.history v.number n) (decision.is_committed front v.number n)
        (λ is. committed_true front v.number n (committed_front k.history front starts legal v.number n (let l = front_long in omega (arith, l, low)) (committed_only k.history v.number n is)))
        (λ is. committed_true k.history v.number n (committed_whole k.history front starts v.number n (committed_only front v.number n is)))

-- ---- there is nothing to do

pub found_few : {D : Type 0} (z : SharedState D) (s v : SeatState) (e : Installed) (Pinned : ℕ → List ℕ → Type 0) → Remembers z s e v → e.halted ≡ false → FewTables e.last → CompactsFrom (GoesOnAs s v) Pinned z s e (Err Nothing) v
found_few z s v e Pinned k running few = record { found = k.found; running = running; idle = few; goes_on = goes_is z s v (found_by z s v e k.found ∷ []) k.is }

-- ---- under the tables turn

-- what was done behind a seat that had seen no less is done behind the one before it
pub ends_then : {D : Type 0} (z : SharedState D) (s u v : SeatState) (e : Installed) (Pinned : ℕ → List ℕ → Type 0) (Decided : ℕ → Bases → List Version → Type 0) → GoesOnAs s u s.knows.participant → (result : Option (Result Done MaintError)) → EndsRoundFrom (GoesOnAs u v) Pinned Decided z u e result v → EndsRoundFrom (GoesOnAs s v) Pinned Decided z s e result v
ends_then z s u v e Pinned Decided first result k =
    ends_so (GoesOnAs u v) (GoesOnAs s v) z s u v v e (seat_still s u s.knows.participant first) (ap (λ (p : Participant). p.past) first.participant) first.seen refl (starts_same v.knows.participant.seen) (goes_more s u v s.knows.participant first) (goes_still s u v s.knows.participant first)
    Pinned Pinned (λ floor live pinned. (pinned, refl)) Decided Decided (λ floor bases versions decided. decided) result k

module _ {D : Type 0} {z : SharedState D} {s d t : SeatState} {e : Installed} (free : IsFree z.table s) (first : Continues z s d s.knows.participant) (taken : Taken z d t (installed e)) where
  on_taken : GoesOnAs d t d.knows.participant
  on_taken = goes_same d t no_fact (installed e ∷ d.knows.held) (5 ∷ d.turns) loose_none taken.goes

  pub goes_taken : GoesOnAs s t s.knows.participant
  goes_taken = goes_still s d t s.knows.participant (goes_of z s d s.knows.participant free first) on_taken

  pub decided_taken : (floor : Registration) (live : List Registration) (bases : Bases) (versions : List Version) (pairs : List Pair) → HasDecided d.knows floor live bases versions pairs → HasDecided t.knows floor live bases versions pairs
  decided_taken floor live bases versions pairs k = decided_still d.knows t.knows floor live bases versions pairs (ap (λ (x : SeatState). x.knows.participant) taken.goes.same) on_taken.notes k

  -- the turn is given, with what was told of these tables
  module _ (u v : SeatState) (given : Given z tables_turn u v [] []) (floor : ℕ) (live : List ℕ) (bases : Bases) (versions : List Version) (decision : HadDecision z s d floor bases versions) where
    on_given : GoesOnAs u v u.knows.participant
    on_given = goes_same u v (is_under tables_turn) [] [] (loose_under tables_turn) given.goes

    same_given : v.knows.participant ≡ u.knows.participant
    same_given = ap (λ (x : SeatState). x.knows.participant) given.goes.same

    decided_given : StartsWith u.knows.participant.seen t.knows.participant.seen → (f : ℕ) (b : Bases) (vs : List Version) → IsDecision floor bases versions f b vs → HadDecision z s v f b vs
    decided_given grown f b vs (of_floor, of_bases, of_versions) =
        subst (λ (x : ℕ × (Bases × List Version)). HadDecision z s v x.0 x.1.0 x.1.1) (λ i. (sym of_floor i, (sym of_bases i, sym of_versions i)))
        (decision_between z s s d v (refl, refl, refl) refl (starts_same s.knows.participant.seen)
        (starts_on d.knows.participant.seen t.knows.participant.seen v.knows.participant.seen on_taken.seen (starts_on t.knows.participant.seen u.knows.participant.seen v.knows.participant.seen grown on_given.seen)) floor bases versions decision)

    pub ends_given : (told : Installed) → StartsWith u.knows.participant.seen t.knows.participant.seen → (result : Option (Result Done MaintError)) → EndsRoundFrom (GoesOnAs t u) (IsPin floor live) (IsDecision floor bases versions) z t told result u → EndsRound (Continues z s v) (IsPin floor live) (HadDecision z s v) z s result v
    ends_given told grown result k =
        let p : Participant = s.knows.participant in
        let freed = given.free refl refl in (
          told,
          ends_so (GoesOnAs t u) (Continues z s v) z s t u v told (seat_still s t s.knows.participant goes_taken) (ap (λ (x : Participant). x.past) goes_taken.participant) goes_taken.seen (sym (ap (λ (x : Participant). x.past) same_given)) on_given.seen
              (λ events w. goes_free z s v (with_events events p) freed (goes_still s u v (with_events events p) (goes_more s t u p goes_taken events w) on_given))
              (λ w. goes_free z s v p freed (goes_still s u v p (goes_still s t u p goes_taken w) on_given))
              (IsPin floor live) (IsPin floor live) (λ f l pinned. (pinned, ap (λ (x : Participant). take f x.seen) (sym same_given)))
              (IsDecision floor bases versions) (HadDecision z s v) (decided_given grown) result k,
        )

-- ---- what a round leaves, whatever it answers

abbrev Somehow : (Participant → Type 0) → Participant → Type 0
Somehow Goes p = (events : List Event) × Goes (with_events events p)

module _ {D : Type 0} (Goes : Participant → Type 0) (Pinned : ℕ → List ℕ → Type 0) (z : SharedState D) (s u : SeatState) (e : Installed) where
  without : Goes s.knows.participant → Somehow Goes s.knows.participant
  without k = ([], subst (λ (past : List Event). Goes (record s.knows.participant { past = past })) (sym (append-nil s.knows.participant.past)) k)

  compacts_somehow : (result : Result Done MaintError) → CompactsFrom Goes Pinned z s e result u → Somehow Goes s.knows.participant
  compacts_somehow (Ok done) k = (found_by z s u e k.found ∷ event.installed (after_compaction (take done.at u.knows.participant.seen) (listed k.live k.first.segment.base e.last) e.last) true ∷ [], k.goes_on)
  compacts_somehow (Err Memory) k = without k
  compacts_somehow (Err Nothing) k = (found_by z s u e k.found ∷ [], k.goes_on)
  compacts_somehow (Err TableFault) k = (found_by z s u e k.found ∷ tables_failed e.last k.asked ∷ [], k.goes_on)
  compacts_somehow (Err (TablesStopped flushed)) k = (found_by z s u e k.found ∷ [], k.goes_on)

  pub ends_somehow : (Decided : ℕ → Bases → List Version → Type 0) (result : Option (Result Done MaintError)) → EndsRoundFrom Goes Pinned Decided z s e result u → Somehow Goes s.knows.participant
  ends_somehow Decided (Some result) k = compacts_somehow result k
  ends_somehow Decided None k = without k.goes_on

-- what was pinned by one seat was by another in its place
pinned_by : {D : Type 0} (z : SharedState D) (a b : SeatState) (history : List Entry) (floor : Registration) (live : List Registration) → IsSeat a b → b.knows.participant ≡ a.knows.participant → IsPinned z a history floor live → IsPinned z b history floor live
pinned_by z a b history floor live seat same k = let t = k.taken in record {
  before = k.before;
  taken = record {
    world = t.world;
    actor = t.actor;
    there = subst (λ (n : ℕ). IsAt (place_at z n) t.actor t.world) (sym seat.0) t.there;
    participant = t.participant ∙ sym same;
    made = t.made ∙ sym seat.1;
    joined = t.joined ∙ sym seat.2;
    held = t.held;
    live = t.live;
    history_is = t.history_is;
    number = t.number;
  };
  least = k.least;
  are_again = k.are_again;
  are_live = k.are_live;
}

module _ {D : Type 0} (z : SharedState D) (s t u v : SeatState) (floor : Registration) (live : List Registration) (first : Continues z s t (record s.knows.participant { registered = s.knows.participant.registered ++ floor ∷ live })) (number : floor.number ≡ length t.knows.participant.seen)
    (pinned : IsPinned z s t.knows.participant.seen floor live) (result : Option (Result Done MaintError)) (k : EndsRound (Continues z t u) (IsPin floor.number (numbers_of live)) (HadDecision z t u) z t result u) where
  abbrev pins : Participant
  pins = record s.knows.participant { registered = s.knows.participant.registered ++ floor ∷ live }

  went : Somehow (Continues z t u) t.knows.participant
  went = ends_somehow (Continues z t u) (IsPin floor.number (numbers_of live)) z t u k.0 (HadDecision z t u) result k.1

  pub free_round : IsFree z.table u
  free_round = went.1.free

  pub registered_round : u.knows.participant.registered ≡ s.knows.participant.registered ++ floor ∷ live
  registered_round = ap (λ (p : Participant). p.registered) went.1.participant ∙ ap (λ (p : Participant). p.registered) first.participant

  module _ (last : Continues z u v (record u.knows.participant { registered = s.knows.participant.registered })) where
    unpinned : (events : List Event) → Continues z t u (with_events events t.knows.participant) → Continues z s v (with_events events s.knows.participant)
    unpinned events second =
        continues_then z s u v (with_events events pins) (λ q. record q { registered = s.knows.participant.registered }) (λ q h k. refl) (continues_then z s t u pins (with_events events) (λ q h k. refl) first second) last

    unpinned_still : Continues z t u t.knows.participant → Continues z s v s.knows.participant
    unpinned_still second = continues_then z s u v pins (λ q. record q { registered = s.knows.participant.registered }) (λ q h k. refl) (continues_still z s t u pins first second) last

    seen_last : StartsWith v.knows.participant.seen t.knows.participant.seen
    seen_last = starts_on t.knows.participant.seen u.knows.participant.seen v.knows.participant.seen went.1.seen last.seen

    front_then : take floor.number u.knows.participant.seen ≡ t.knows.participant.seen
    front_then = take_seen floor.number t.knows.participant.seen u.knows.participant.seen number went.1.seen

    front_last : take floor.number v.knows.participant.seen ≡ t.knows.participant.seen
    front_last = take_seen floor.number t.knows.participant.seen v.knows.participant.seen number seen_last

    has_pinned : HasPinned z s v floor.number (numbers_of live)
    has_pinned = record {
      seen = s.knows.participant.seen;
      snapshot = floor;
      others = live;
      pinned = subst (λ (h : List Entry). IsPinned z (seeing s.knows.participant.seen s) h floor live) (sym front_last) (pinned_by z s (seeing s.knows.participant.seen s) t.knows.participant.seen floor live (refl, refl, refl) refl pinned);
      floor_is = refl;
      live_is = refl;
      within = let l = grown_length t.knows.participant.seen v.knows.participant.seen seen_last in omega (arith, l, number);
      later = subst (λ (h : List Entry). StartsWith h s.knows.participant.seen) (sym front_last) first.seen;
    }

    pins_so : (f : ℕ) (l : List ℕ) → IsPin floor.number (numbers_of live) f l → HasPinned z s v f l × (take f u.knows.participant.seen ≡ take f v.knows.participant.seen)
    pins_so f l is = subst (λ (x : ℕ × List ℕ). HasPinned z s v x.0 x.1 × (take x.0 u.knows.participant.seen ≡ take x.0 v.knows.participant.seen)) (λ i. (sym is.0 i, sym is.1 i)) (has_pinned, front_then ∙ sym front_last)

    pub round_so : EndsRound (Continues z s v) (HasPinned z s v) (HadDecision z s v) z s result v
    round_so = (
      k.0,
      ends_so (Continues z t u) (Continues z s v) z s t u v k.0 (first.same_by, first.made, first.joined) (ap (λ (p : Participant). p.past) first.participant) first.seen (sym (ap (λ (p : Participant). p.past) last.participant)) last.seen unpinned unpinned_still
          (IsPin floor.number (numbers_of live)) (HasPinned z s v) pins_so (HadDecision z t u) (HadDecision z s v)
          (decision_between z s t u v (first.same_by, first.made, first.joined) (ap (λ (p : Participant). p.past) first.participant) first.seen last.seen) result k.1,
    )

-- ---- rounds one after another

module _ {D : Type 0} (z : SharedState D) (s t v : SeatState) (first : Continues z s t s.knows.participant) where
  pinned_since : (floor : ℕ) (live : List ℕ) → HasPinned z t v floor live → HasPinned z s v floor live × (take floor v.knows.participant.seen ≡ take floor v.knows.participant.seen)
  pinned_since floor live k = (
    record {
      seen = k.seen;
      snapshot = k.snapshot;
      others = k.others;
      pinned = pinned_by z (seeing k.seen t) (seeing k.seen s) (take floor v.knows.participant.seen) k.snapshot k.others (sym first.same_by, sym first.made, sym first.joined) (ap (λ (p : Participant). record p { seen = k.seen }) (sym first.participant)) k.pinned;
      floor_is = k.floor_is;
      live_is = k.live_is;
      within = k.within;
      later = starts_on s.knows.participant.seen t.knows.participant.seen (take floor v.knows.participant.seen) first.seen k.later;
    },
    refl,
  )

  pub compacts_since : (result : Result Done MaintError) → EndsRound (Continues z t v) (HasPinned z t v) (HadDecision z t v) z t (Some result) v → Compacts z s result v
  compacts_since result k = (
    k.0,
    compacts_so (Continues z t v) (Continues z s v) z s t v v k.0 (first.same_by, first.made, first.joined) (ap (λ (p : Participant). p.past) first.participant) first.seen refl (starts_same v.knows.participant.seen) (λ events second. continues_then z s t v s.knows.participant (with_events events) (λ q h k. refl) first second) (continues_still z s t v s.knows.participant first)
        (HasPinned z t v) (HasPinned z s v) pinned_since result k.1,
  )

  pub grown_since : (result : Result Done MaintError) → EndsRound (Continues z t v) (HasPinned z t v) (HadDecision z t v) z t (Some result) v → StartsWith v.knows.participant.seen t.knows.participant.seen
  grown_since result k = (ends_somehow (Continues z t v) (HasPinned z t v) z t v k.0 (HadDecision z t v) (Some result) k.1).1.seen

  -- what the rounds before left, and what the last one did
  pub each_since : StartsWith v.knows.participant.seen t.knows.participant.seen → KeepsEach z s t → KeepsEach z t v → KeepsEach z s v
  each_since grown before last =
      let p = s.knows.participant in
      each_then z s v (each_between z s s t v (refl, refl, refl) refl (starts_same p.seen) grown before)
      (each_between z s t v v (first.same_by, first.made, first.joined) (ap (λ (q : Participant). q.past) first.participant) first.seen (starts_same v.knows.participant.seen) last)
