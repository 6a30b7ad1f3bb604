-- What is so of the actors: what they saw, what they published, what they hold.
use Rattle.std.specs.Prelude.{◌≡◌, ◌≢◌, ℕ, ◌+◌, ◌==◌, ◌&&◌, nat_lt, nat_le, Bool, true, false, List, [], ◌∷◌, ◌++◌, length, map, None, if◌then◌else◌}
use mathlib.Core.Option.{some}
use lib.ListN.{get_elem?}
use Rattle.wp_model.specs.declared.entry.Entry.{Entry}
use Rattle.wp_core.specs.Lists.{EachAt, IsIn, one_if, total}
use Rattle.wp_core.specs.Turns.{Turn, Holders, Holds}
use Rattle.wp_core.specs.States.{Content, turn_of}
use Rattle.wp_core.specs.World.{Participant, Actor, new_participant}

-- the second history is the first part of the first
abbrev pub StartsWith : List Entry → List Entry → Type 0
StartsWith history seen = (rest : List Entry) × (history ≡ seen ++ rest)

-- ---- the participants: of each actor its own, and those of the actors that it joined. A part names what it reads of one.

abbrev pub participants_of : {X : Type 0} → (Participant → X) → Actor → List X
participants_of f a = f a.participant ∷ map f a.joined

-- this one is the i-th of the participants of the actor j
abbrev pub IsParticipantAt : {X : Type 0} → List (List X) → ℕ → ℕ → X → Type 0
IsParticipantAt {X} participants j i p = (ps : List X) × (get_elem? participants j ≡ some ps) × (get_elem? ps i ≡ some p)

abbrev pub EachParticipant : {X : Type 0} → (X → Type 0) → List (List X) → Type 0
EachParticipant {X} P participants = (j i : ℕ) (p : X) → IsParticipantAt participants j i p → P p

-- the sum over all participants
abbrev pub total_participants : {X : Type 0} → (X → ℕ) → List (List X) → ℕ
total_participants f participants = total (total f) participants

-- ---- what they saw

abbrev pub seen_of : Participant → List Entry
seen_of p = p.seen

abbrev pub AreSeen : List Entry → List (List (List Entry)) → Type 0
AreSeen history seens = EachParticipant (StartsWith history) seens

abbrev pub learned_of : Actor → List Entry
learned_of a = a.learned

abbrev pub AreLearned : List Entry → List (List Entry) → Type 0
AreLearned history learned = EachAt (λ j entries. StartsWith history entries) learned

-- ---- what they published

abbrev pub own_of : Participant → List ℕ
own_of p = p.own

abbrev pub times : ℕ → List ℕ → ℕ
times n numbers = total (λ m. one_if (m == n)) numbers

-- one where n is a number past the opening and up to the length
abbrev pub once : List Entry → List Entry → ℕ → ℕ
once opened history n = if nat_lt (length opened) n && nat_le n (length history) then 1 else 0

-- each number since the opening is once in the own lists, and no other is
abbrev pub AreOwned : List Entry → List Entry → List (List (List ℕ)) → Type 0
AreOwned opened history owns = (n : ℕ) → total_participants (times n) owns ≡ once opened history n

-- ---- what they hold

abbrev pub held_of : Actor → List Content
held_of a = a.held

abbrev pub NoneAfter : Turn → List Content → Type 0
NoneAfter turn [] = Unit {0}
NoneAfter turn (first ∷ others) = (turn_of first ≢ turn) × NoneAfter turn others

-- each state that an actor holds is as the world has it, its turn is the actor's, and none is there twice
abbrev pub AreHeld : Holders → (Turn → Content) → ℕ → List Content → Type 0
AreHeld holders contents j [] = Unit {0}
AreHeld holders contents j (c ∷ others) = Holds holders (turn_of c) j × (contents (turn_of c) ≡ c) × NoneAfter (turn_of c) others × AreHeld holders contents j others

-- who holds a turn has the state that it guards
abbrev pub HoldersHave : Holders → List (List Content) → Type 0
HoldersHave holders helds = (turn : Turn) (j : ℕ) → Holds holders turn j → (held : List Content) × (get_elem? helds j ≡ some held) × (c : Content) × IsIn c held × (turn_of c ≡ turn)

-- ---- who they are

-- whether an actor is live, how many it made, and whom it joined
pub record Role : Type 0 where
  pub live : Bool
  pub made : ℕ
  pub joined : List Participant

abbrev pub role_of : Actor → Role
role_of a = record { live = a.live; made = a.made; joined = a.joined }

-- the first actor is live, and all other live ones were made by it and are not joined yet; only it makes and joins
pub record AreLed (roles : List Role) : Type 0 where
  pub first : Role
  pub there : get_elem? roles 0 ≡ some first
  pub live : first.live ≡ true
  pub counted : total (λ s. one_if s.live) roles + length first.joined ≡ 1 + first.made
  pub others : EachAt (λ j s. j ≢ 0 → (s.made ≡ 0) × (s.joined ≡ [])) roles

-- one that is not live did nothing, and has nothing
pub record IsIdle (a : Actor) : Type 0 where
  pub participant : a.participant ≡ new_participant a.participant.client a.participant.seen
  pub held : a.held ≡ []
  pub reading : a.reading ≡ None
  pub notes : a.notes ≡ []

abbrev pub AreIdle : List Actor → Type 0
AreIdle actors = EachAt (λ j a. a.live ≡ false → IsIdle a) actors
