-- A reading, one step after another.
use Rattle.std.proofs.Common.{◌≡◌, ℕ, ◌≤◌, ◌^◌, Bool, true, false, not, List, [], ◌∷◌, ◌++◌, length, slice_index, refl, sym, subst, ap, ◌∙◌, Option, Some, option_map, arith}
use Rattle.wp_model.specs.declared.entry.Entry.{Entry}
use Rattle.wp_model.specs.Decision.{IsCommittedAt}
use Rattle.wp_model.specs.Legal.{IsLegal}
use Rattle.wp_model.specs.Snapshots.{Snapshots, IsLive}
use Rattle.wp_judge.specs.declared.observed.Observed.{Observed}
use Rattle.wp_judge.specs.declared.observed.Load.{Load}
use Rattle.wp_judge.specs.declared.observed.Load.TheVariants.{FirstWord, FirstMax, DelayedFlag, SecondWord, SecondMax, OldFlag, IsOldCommit}
use Rattle.wp_judge.specs.declared.observed.Load.TheVariants as variant
use Rattle.wp_judge.specs.Order.{judgement}
use Rattle.wp_core.specs.Cache.{cache_place, cached_word}
use Rattle.wp_core.specs.Changes.{loaded}
use Rattle.wp_core.specs.Lists.{IsIn}
use Rattle.wp_core.specs.Reading.{Registration, snapshot_of, reads}
use Rattle.wp_core.specs.Sound.Reader.{IsRight, reader_of}
use Rattle.wp_core.specs.Sound.Snapshots.{has_versions_at, view_of}
use Rattle.wp_core.specs.Steps.{Step, begin_reading, load}
use Rattle.wp_core.specs.States.{snapshots}
use Rattle.wp_core.specs.World.{Actor, World}
use Rattle.wp_core.proofs.AllParticipants.{mine}
use Rattle.wp_core.proofs.Frames.{at_map}
use Rattle.wp_core.proofs.HistoryLaws.{decided_late, decision_stays, decision_was}
use Rattle.wp_core.proofs.Registered.{registered_live}
use Rattle.wp_rule.specs.Words.{Place, IsAt, word_in}
use Rattle.wp_rule.specs.declared.word.Word.{Word}
use Rattle.wp_rule.specs.declared.word.Word.TheVariants as shared
use Rattle.wp_rule.specs.Moves.{MayMake, Moved, world_after_step}
use Rattle.wp_rule.specs.Knows.{KnowsLook}
use Rattle.wp_rule.proofs.Forgets.{EndsNothing}
use Rattle.wp_rule.proofs.Knows.{at_sound, seen_is}
use Rattle.wp_rule.proofs.MayBeMade.{known_made}
use Rattle.wp_shared.specs.Clients.{KeepClient}
use Rattle.wp_shared.specs.Seats.{SharedState, SeatState, place_at}
use Rattle.wp_shared.proofs.OneStep.{made, becomes}
use Rattle.wp_shared.proofs.Tables.{held_state}
use Rattle.wp_read.specs.Reads.{reading, Reads, Loads, IsNext, IsOfWord, IsWordFor, with_word}

-- ---- what was concluded is right of what was seen

pub right_before : (seen rest : List Entry) (p s : ℕ) (visible : Bool) → IsLegal (seen ++ rest) → s ≤ length seen → IsRight (seen ++ rest) p s visible → IsRight seen p s visible
right_before seen rest p s true legal low is =
    let within = is.within in let late = decided_late (seen ++ rest) p is.by legal is.decided in
    record { by = is.by; decided = decision_was seen rest p is.by (omega arith) (omega arith) is.decided; within = is.within }
right_before seen rest p s false legal low is = λ (c : IsCommittedAt seen p s). is (record { by = c.by; decided = decision_stays seen rest p c.by c.decided; within = c.within })

-- what the seat registered is at most the length of what it has seen
pub registered_low : (p : Place) (a : Actor) (w : World) (r : Registration) → IsAt p a w → IsIn r a.participant.registered → r.number ≤ length a.participant.seen
registered_low p a w r k there = (at_sound p a w k).viewed p.by 0 (view_of a.participant) (mine view_of w.actors p.by a a k.there refl) r there

pub judged_right : (p : Place) (a : Actor) (w : World) (r : Observed) (visible : Bool) → IsAt p a w → a.reading ≡ Some r → judgement r ≡ Some visible → IsRight a.participant.seen r.version r.snapshot visible
judged_right p a w r visible k is judged =
    let s = at_sound p a w k in let begins = seen_is p a w k in let there = at_map reader_of w.actors p.by a k.there in
    right_before a.participant.seen begins.0 r.version r.snapshot visible (subst IsLegal begins.1 s.history.legal)
    (registered_low p a w (snapshot_of r) k (s.readers p.by (reader_of a) there r is).registered_at)
    (subst (λ (h : List Entry). IsRight h r.version r.snapshot visible) begins.1 (s.judged p.by (reader_of a) there r visible is judged))

-- ---- a step of a reading

pub reads_now : {D : Type 0} (z : SharedState D) (s t : SeatState) (w : World) (r : Observed) → IsAt (place_at z s.by) t.knows w → t ≡ reading s r → Reads z s t r
reads_now z s t w r k e = record {
  seat = e;
  right = λ visible judged.
      subst (λ (h : List Entry). IsRight h r.version r.snapshot visible) (ap (λ (x : SeatState). x.knows.participant.seen) e)
      (judged_right (place_at z s.by) t.knows w r visible k (ap (λ (x : SeatState). x.knows.reading) e) judged);
  cells = ((at_sound (place_at z s.by) t.knows w k).readers s.by (reader_of t.knows) (at_map reader_of w.actors s.by t.knows k.there) r (ap (λ (x : SeatState). x.knows.reading) e)).words ∙ k.cells;
}

begin_ends : (bits q : ℕ) (r : Registration) → EndsNothing (begin_reading bits q r)
begin_ends bits q r = record { guard = λ turn. refl; place = λ words place. refl; words = refl; delayed_flag = refl; old_flag = refl; pending = refl; adds = refl; takes = refl; prepared = refl; unprepared = refl; delays = refl; transaction = λ history name. refl; changes = λ history key. refl; direct = refl; moves = refl; replaces = refl; installing = refl }

load_ends : (which : Load) → EndsNothing (load which)
load_ends which = record { guard = λ turn. refl; place = λ words place. refl; words = refl; delayed_flag = refl; old_flag = refl; pending = refl; adds = refl; takes = refl; prepared = refl; unprepared = refl; delays = refl; transaction = λ history name. refl; changes = λ history key. refl; direct = refl; moves = refl; replaces = refl; installing = refl }

module _ {D : Type 0} (z : SharedState D) (p : Place) (steps : World → List Step) (s t : SeatState) (bits q : ℕ) (r : Registration) (is : steps ≡ (λ w. begin_reading bits q r ∷ [])) where
  pub may_begin : 2 ^ bits ≡ p.cells → IsIn r s.knows.participant.registered → (q ≤ r.number → has_versions_at s.knows.participant.seen q ≡ true) → MayMake p s.knows steps
  may_begin cells there version = subst (MayMake p s.knows) (sym is) (known_made p s.knows (begin_reading bits q r) tt (cells, there, version))

  pub begin_keeps : (w : World) → KeepClient (steps w)
  begin_keeps w = subst (λ (x : World → List Step). KeepClient (x w)) (sym is) (tt, tt)

  pub begun : (so : World → Type 0) → p ≡ place_at z s.by → (t.table ≡ s.table) × (t.by ≡ s.by) × (t.turns ≡ s.turns) → Moved p steps so s.knows t.knows → Reads z s t (reads bits q r)
  begun so place same m =
      let n : Moved (place_at z s.by) (λ w. begin_reading bits q r ∷ []) so s.knows t.knows = subst (λ (x : Place × (World → List Step)). Moved x.0 x.1 so s.knows t.knows) (λ i. (place i, is i)) m in
      let k = made (place_at z s.by) (begin_reading bits q r) so s.knows t.knows (begin_ends bits q r) n in
      reads_now z s t (world_after_step k.world s.by s.knows (begin_reading bits q r)) (reads bits q r) k.after (becomes s t (record s.knows { reading = Some (reads bits q r) }) same k.actor)

-- ---- loads

-- what is loaded hangs on no actor
same_loaded : (w : World) (actors : List Actor) (which : Load) (r : Observed) → loaded (record w { actors = actors }) which r ≡ loaded w which r
same_loaded w actors FirstWord r = refl
same_loaded w actors other r = refl

pub may_load : {D : Type 0} (z : SharedState D) (s : SeatState) (which : Load) (r : Observed) → IsNext s r which → KnowsLook s.knows which → MayMake (place_at z s.by) s.knows (λ w. load which ∷ [])
may_load z s which r next look = known_made (place_at z s.by) s.knows (load which) tt (r, next.0, next.1, look)

pub load_made : {D : Type 0} (z : SharedState D) (so : World → Type 0) (s t : SeatState) (which : Load) (r r' : Observed) → IsNext s r which → ((w : World) → IsAt (place_at z s.by) s.knows w → so w → r' ≡ loaded w which r)
    → (t.table ≡ s.table) × (t.by ≡ s.by) × (t.turns ≡ s.turns) → Moved (place_at z s.by) (λ w. load which ∷ []) so s.knows t.knows → Loads z which s t r r'
load_made z so s t which r r' next is same m =
    let k = made (place_at z s.by) (load which) so s.knows t.knows (load_ends which) m in
    let found : r' ≡ loaded k.world which r = is k.world k.before k.so_is in
    let alone : World = record k.world { actors = s.knows ∷ [] } in
    let knows : t.knows ≡ record s.knows { reading = Some r' } =
    k.actor ∙ (ap (λ (o : Option Observed). record s.knows { reading = option_map (loaded alone which) o }) next.0 ∙ ap (λ (x : Observed). record s.knows { reading = Some x }) (same_loaded k.world (s.knows ∷ []) which r ∙ sym found)) in
    record {
      reads = reads_now z s t (world_after_step k.world s.by s.knows (load which)) r' k.after (becomes s t (record s.knows { reading = Some r' }) same knows);
      world = k.world;
      actor = s.knows;
      there = k.before;
      is_loaded = found;
    }

-- the word with this index is the version's
pub word_is : {D : Type 0} (z : SharedState D) (by : ℕ) (a : Actor) (w : World) (version index word : ℕ) → index ≡ cache_place z.cells version → IsAt (place_at z by) a w → word ≡ slice_index w.cache index → word ≡ cached_word w.cache version
word_is z by a w version index word is k found = found ∙ ap (slice_index w.cache) (is ∙ ap (λ n. cache_place n version) (sym k.cells))

-- a load of a word is no look behind a turn
pub none_to_look : (a : Actor) (which : Load) → IsOfWord which → KnowsLook a which
none_to_look a FirstWord word = tt
none_to_look a FirstMax word = tt
none_to_look a DelayedFlag word = tt
none_to_look a variant.InPrepared word = absurd (word.0 refl)
none_to_look a SecondWord word = tt
none_to_look a SecondMax word = tt
none_to_look a OldFlag word = tt
none_to_look a IsOldCommit word = absurd (word.1 refl)

module _ {D : Type 0} (z : SharedState D) (by : ℕ) (a : Actor) (w : World) (k : IsAt (place_at z by) a w) where
  of_word : (version : ℕ) (x : Word) (found : ℕ) → x ≡ shared.Cell (cache_place z.cells version) → found ≡ word_in x w → found ≡ cached_word w.cache version
  of_word version x found is so = word_is z by a w version (cache_place z.cells version) found refl k (so ∙ ap (λ (y : Word). word_in y w) is)

  -- what was loaded of a word is what the machine loads
  pub word_loaded : (which : Load) (x : Word) (found : ℕ) (r : Observed) → IsWordFor z.cells r.version which x → found ≡ word_in x w → with_word which found r ≡ loaded w which r
  word_loaded FirstWord x found r is so = ap (λ (n : ℕ). record r { first_word = Some n }) (of_word r.version x found is so)
  word_loaded SecondWord x found r is so = ap (λ (n : ℕ). record r { second_word = Some n }) (of_word r.version x found is so)
  word_loaded FirstMax x found r is so = ap (λ (n : ℕ). record r { first_max = Some n }) (so ∙ ap (λ (y : Word). word_in y w) is)
  word_loaded SecondMax x found r is so = ap (λ (n : ℕ). record r { second_max = Some n }) (so ∙ ap (λ (y : Word). word_in y w) is)
  word_loaded DelayedFlag x found r is so = ap (λ (n : ℕ). record r { delayed_flag = Some n }) (so ∙ ap (λ (y : Word). word_in y w) is)
  word_loaded OldFlag x found r is so = ap (λ (n : ℕ). record r { old_flag = Some n }) (so ∙ ap (λ (y : Word). word_in y w) is)
  word_loaded other x found r is so = absurd is

-- ---- looks behind turns

-- what the actor registered is live in the snapshots that it holds
pub held_live : (p : Place) (a : Actor) (w : World) (m : Snapshots) (r : Registration) → IsAt p a w → IsIn (snapshots m) a.held → IsIn r a.participant.registered → IsLive m r.number
held_live p a w m r k there registered =
    subst (λ (x : Snapshots). IsLive x r.number) (held_state p a w (snapshots m) k there) (registered_live w.writes.history w.snapshots w.actors p.by a r k.there registered (at_sound p a w k).registrations).0

-- it reads at a snapshot that it registered
pub reads_registered : (p : Place) (a : Actor) (w : World) (r : Observed) → IsAt p a w → a.reading ≡ Some r → IsIn (snapshot_of r) a.participant.registered
reads_registered p a w r k is = ((at_sound p a w k).readers p.by (reader_of a) (at_map reader_of w.actors p.by a k.there) r is).registered_at

pub not_not : (b : Bool) → not (not b) ≡ b
not_not true = refl
not_not false = refl
