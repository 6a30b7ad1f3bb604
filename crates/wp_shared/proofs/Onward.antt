-- A seat that goes on through the stages of a call, and through calls.
use Rattle.std.proofs.Common.{◌≡◌, ℕ, Bool, false, List, [], ◌∷◌, ◌++◌, append_assoc, append-nil, Option, refl, sym, ap, ◌∙◌}
use Rattle.wp_model.specs.declared.entry.Entry.{Entry}
use Rattle.wp_core.specs.Changes.{turn_index}
use Rattle.wp_core.specs.Notes.{gives_guard}
use Rattle.wp_core.specs.Sound.Actors.{StartsWith}
use Rattle.wp_core.specs.Steps.{give_turn}
use Rattle.wp_core.specs.States.{Content, turn_of}
use Rattle.wp_core.specs.Turns.{Turn}
use Rattle.wp_core.specs.Views.{Fact}
use Rattle.wp_core.specs.World.{Participant}
use Rattle.wp_shared.specs.Calls.{IsLoose, GoesOnWith, ContinuesWith}
use Rattle.wp_shared.specs.Notes.{no_fact, is_under, seeing, with_participant, GoesOn}
use Rattle.wp_shared.specs.Seats.{SharedState, SeatState, IsFree}
use Rattle.wp_shared.specs.Turns.{HoldsTurn, Taken}

-- ---- what was seen

pub starts_on : (one two three : List Entry) → StartsWith two one → StartsWith three two → StartsWith three one
starts_on one two three first second = (first.0 ++ second.0, second.1 ∙ ap (λ (h : List Entry). h ++ second.0) first.1 ∙ append_assoc one first.0 second.0)

pub starts_equal : (one two : List Entry) → two ≡ one → StartsWith two one
starts_equal one two same = ([], same ∙ sym (append-nil one))

pub starts_same : (one : List Entry) → StartsWith one one
starts_same one = starts_equal one one refl

-- ---- which facts stay

pub loose_none : (fact : Fact) → IsLoose fact → no_fact fact ≡ false
loose_none fact loose = refl

pub loose_under : (turn : Turn) (fact : Fact) → IsLoose fact → is_under turn fact ≡ false
loose_under turn fact loose = ap (λ (g : Option Turn). gives_guard g (give_turn turn)) loose

-- ---- one step

-- but for what it holds and noted it is the same
pub goes_same : {Stays : Fact → Type 0} (s t : SeatState) (test : Fact → Bool) (held : List Content) (turns : List ℕ) → ((fact : Fact) → Stays fact → test fact ≡ false) → GoesOn test held turns s t → GoesOnWith Stays s t s.knows.participant
goes_same s t test held turns stays k =
    let same : t.knows.participant ≡ s.knows.participant = ap (λ (x : SeatState). x.knows.participant) k.same in
    let seen : t.knows.participant.seen ≡ s.knows.participant.seen = ap (λ (p : Participant). p.seen) same in
    record {
      same_table = ap (λ (x : SeatState). x.table) k.same;
      same_by = ap (λ (x : SeatState). x.by) k.same;
      live = ap (λ (x : SeatState). x.knows.live) k.same;
      seen = starts_equal s.knows.participant.seen t.knows.participant.seen seen;
      participant = same ∙ ap (λ (h : List Entry). record s.knows.participant { seen = h }) (sym seen);
      notes = λ fact kept there. k.noted fact (stays fact kept) there;
      made = ap (λ (x : SeatState). x.knows.made) k.same;
      joined = ap (λ (x : SeatState). x.knows.joined) k.same;
    }

pub goes_fewer : {Stays Others : Fact → Type 0} (s t : SeatState) (p : Participant) → ((fact : Fact) → Others fact → Stays fact) → GoesOnWith Stays s t p → GoesOnWith Others s t p
goes_fewer s t p fewer k = record {
  same_table = k.same_table;
  same_by = k.same_by;
  live = k.live;
  seen = k.seen;
  participant = k.participant;
  notes = λ fact other there. k.notes fact (fewer fact other) there;
  made = k.made;
  joined = k.joined;
}

-- ---- one step after another

-- what is made of a participant does not hang on what it has seen
abbrev pub IsBlind : (Participant → Participant) → Type 0
IsBlind f = (p : Participant) (h k : List Entry) → record (f (record p { seen = h })) { seen = k } ≡ record (f p) { seen = k }

pub goes_then : {Stays : Fact → Type 0} (s t u : SeatState) (p : Participant) (f : Participant → Participant) → IsBlind f → GoesOnWith Stays s t p → GoesOnWith Stays t u (f t.knows.participant) → GoesOnWith Stays s u (f p)
goes_then s t u p f blind first second = record {
  same_table = second.same_table ∙ first.same_table;
  same_by = second.same_by ∙ first.same_by;
  live = second.live ∙ first.live;
  seen = starts_on s.knows.participant.seen t.knows.participant.seen u.knows.participant.seen first.seen second.seen;
  participant = second.participant ∙ ap (λ (x : Participant). record (f x) { seen = u.knows.participant.seen }) first.participant ∙ blind p t.knows.participant.seen u.knows.participant.seen;
  notes = λ fact stays there. second.notes fact stays (first.notes fact stays there);
  made = second.made ∙ first.made;
  joined = second.joined ∙ first.joined;
}

-- the next step leaves the participant as it is
pub goes_still : {Stays : Fact → Type 0} (s t u : SeatState) (p : Participant) → GoesOnWith Stays s t p → GoesOnWith Stays t u t.knows.participant → GoesOnWith Stays s u p
goes_still s t u p first second = goes_then s t u p (λ x. x) (λ x h k. refl) first second

pub goes_none : {Stays : Fact → Type 0} (s : SeatState) → GoesOnWith Stays s s s.knows.participant
goes_none s = record { same_table = refl; same_by = refl; live = refl; seen = starts_same s.knows.participant.seen; participant = refl; notes = λ fact stays there. there; made = refl; joined = refl }

-- it has seen this history, or is this participant, and is as it was but for that
pub goes_seeing : {Stays : Fact → Type 0} (s : SeatState) (h : List Entry) → StartsWith h s.knows.participant.seen → GoesOnWith Stays s (seeing h s) s.knows.participant
goes_seeing s h grown = record { same_table = refl; same_by = refl; live = refl; seen = grown; participant = refl; notes = λ fact stays there. there; made = refl; joined = refl }

pub goes_being : {Stays : Fact → Type 0} (s : SeatState) (p : Participant) → p.seen ≡ s.knows.participant.seen → GoesOnWith Stays s (with_participant p s) p
goes_being s p same = record { same_table = refl; same_by = refl; live = refl; seen = starts_equal s.knows.participant.seen p.seen same; participant = refl; notes = λ fact stays there. there; made = refl; joined = refl }

-- ---- the seat is free

pub goes_free : {D : Type 0} {Stays : Fact → Type 0} (z : SharedState D) (s t : SeatState) (p : Participant) → IsFree z.table t → GoesOnWith Stays s t p → ContinuesWith Stays z s t p
goes_free z s t p free k = record { free = free; same_by = k.same_by; seen = k.seen; participant = k.participant; notes = k.notes; made = k.made; joined = k.joined }

pub goes_of : {D : Type 0} {Stays : Fact → Type 0} (z : SharedState D) (s t : SeatState) (p : Participant) → IsFree z.table s → ContinuesWith Stays z s t p → GoesOnWith Stays s t p
goes_of z s t p free k = record { same_table = k.free.same_table ∙ sym free.same_table; same_by = k.same_by; live = k.free.live ∙ sym free.live; seen = k.seen; participant = k.participant; notes = k.notes; made = k.made; joined = k.joined }

pub continues_none : {D : Type 0} {Stays : Fact → Type 0} (z : SharedState D) (s : SeatState) → IsFree z.table s → ContinuesWith Stays z s s s.knows.participant
continues_none z s free = goes_free z s s s.knows.participant free (goes_none s)

-- one call after another
pub continues_then : {D : Type 0} {Stays : Fact → Type 0} (z : SharedState D) (s t u : SeatState) (p : Participant) (f : Participant → Participant) → IsBlind f → ContinuesWith Stays z s t p → ContinuesWith Stays z t u (f t.knows.participant) → ContinuesWith Stays z s u (f p)
continues_then z s t u p f blind first second = record {
  free = second.free;
  same_by = second.same_by ∙ first.same_by;
  seen = starts_on s.knows.participant.seen t.knows.participant.seen u.knows.participant.seen first.seen second.seen;
  participant = second.participant ∙ ap (λ (x : Participant). record (f x) { seen = u.knows.participant.seen }) first.participant ∙ blind p t.knows.participant.seen u.knows.participant.seen;
  notes = λ fact stays there. second.notes fact stays (first.notes fact stays there);
  made = second.made ∙ first.made;
  joined = second.joined ∙ first.joined;
}

-- the next call leaves the participant as it is
pub continues_still : {D : Type 0} {Stays : Fact → Type 0} (z : SharedState D) (s t u : SeatState) (p : Participant) → ContinuesWith Stays z s t p → ContinuesWith Stays z t u t.knows.participant → ContinuesWith Stays z s u p
continues_still z s t u p first second = continues_then z s t u p (λ x. x) (λ x h k. refl) first second

-- ---- the turn that was taken last

pub holds_on : {D : Type 0} {z : SharedState D} {s t : SeatState} {test : Fact → Bool} {table : Content} {others : List Content} {beneath : List ℕ} → HoldsTurn z s table others beneath → GoesOn test s.knows.held s.turns s t → HoldsTurn z t table others beneath
holds_on h k = record {
  same_table = ap (λ (x : SeatState). x.table) k.same ∙ h.same_table;
  live = ap (λ (x : SeatState). x.knows.live) k.same ∙ h.live;
  held = ap (λ (x : SeatState). x.knows.held) k.same ∙ h.held;
  turns = ap (λ (x : SeatState). x.turns) k.same ∙ h.turns;
}

-- its state changed
pub holds_as : {D : Type 0} {z : SharedState D} {s t : SeatState} {test : Fact → Bool} {before table : Content} {others : List Content} {beneath : List ℕ} → HoldsTurn z s before others beneath → GoesOn test (table ∷ others) s.turns s t → turn_of before ≡ turn_of table → HoldsTurn z t table others beneath
holds_as {beneath = beneath} h k same = record {
  same_table = ap (λ (x : SeatState). x.table) k.same ∙ h.same_table;
  live = ap (λ (x : SeatState). x.knows.live) k.same ∙ h.live;
  held = ap (λ (x : SeatState). x.knows.held) k.same;
  turns = ap (λ (x : SeatState). x.turns) k.same ∙ (h.turns ∙ ap (λ (turn : Turn). turn_index turn ∷ beneath) same);
}

-- the seat goes on with this turn as the last
pub holds_next : {D : Type 0} {z : SharedState D} {s t : SeatState} {test : Fact → Bool} {before table : Content} {others rest : List Content} {beneath below : List ℕ} → HoldsTurn z s before others beneath → GoesOn test (table ∷ rest) (turn_index (turn_of table) ∷ below) s t → HoldsTurn z t table rest below
holds_next h k = record {
  same_table = ap (λ (x : SeatState). x.table) k.same ∙ h.same_table;
  live = ap (λ (x : SeatState). x.knows.live) k.same ∙ h.live;
  held = ap (λ (x : SeatState). x.knows.held) k.same;
  turns = ap (λ (x : SeatState). x.turns) k.same;
}

-- a free seat took it, and holds no other
pub holds_alone : {D : Type 0} {z : SharedState D} {s t : SeatState} {table : Content} → IsFree z.table s → Taken z s t table → HoldsTurn z t table [] []
holds_alone {table = table} free k = record {
  same_table = k.holds.same_table;
  live = k.holds.live;
  held = k.holds.held ∙ ap (λ (l : List Content). table ∷ l) free.held;
  turns = k.holds.turns ∙ ap (λ (l : List ℕ). turn_index (turn_of table) ∷ l) free.turns;
}

-- it held one turn, and took this one too
pub holds_two : {D : Type 0} {z : SharedState D} {s t : SeatState} {first table : Content} {others : List Content} {beneath : List ℕ} → HoldsTurn z s first others beneath → Taken z s t table → HoldsTurn z t table (first ∷ others) (turn_index (turn_of first) ∷ beneath)
holds_two {table = table} h k = record {
  same_table = k.holds.same_table;
  live = k.holds.live;
  held = k.holds.held ∙ ap (λ (l : List Content). table ∷ l) h.held;
  turns = k.holds.turns ∙ ap (λ (l : List ℕ). turn_index (turn_of table) ∷ l) h.turns;
}
