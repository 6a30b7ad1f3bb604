-- Making a note and making a seat keep a world sound.
use Rattle.std.proofs.Common.{◌≡◌, ◌≢◌, ⊎_elim, inl, inr, ℕ, zero, suc, ◌+◌, Bool, true, false, not, List, [], ◌∷◌, ◌++◌, length, map, set, filter, refl, sym, subst, ap, ◌∙◌, arith}
use mathlib.Core.Option.{some, some-injective, some-ne-none}
use lib.ListN.{get_elem?}
use Rattle.wp_model.specs.declared.entry.Entry.{Entry}
use Rattle.wp_core.specs.Lists.{EachAt, IsIn, one_if, total}
use Rattle.wp_core.specs.Views.{Fact}
use Rattle.wp_core.specs.World.{Actor, Participant, World, new_actor, content_of}
use Rattle.wp_core.specs.Steps.{make_note, make_seat}
use Rattle.wp_core.specs.Changes.{made_one}
use Rattle.wp_core.specs.Effects.{done}
use Rattle.wp_core.specs.Needs.{Needs}
use Rattle.wp_core.specs.Notes.{forgets, ends}
use Rattle.wp_core.specs.Sound.Actors.{StartsWith, seen_of, AreLearned, AreHeld, HoldersHave, Role, AreLed, IsIdle, learned_of, held_of, role_of}
use Rattle.wp_core.specs.Sound.Reader.{AreReaders, AreJudged, reader_of}
use Rattle.wp_core.specs.Sound.Views.{IsNoted, noter_of}
use Rattle.wp_core.specs.IsSound.{IsSound}
use Rattle.wp_core.proofs.Frames.{each_map_set, each_set, at_map, in_filter, here}
use Rattle.wp_core.proofs.AllParticipants.{mine}
use Rattle.wp_core.proofs.PastsGrow.{total_more}
use Rattle.wp_core.proofs.Persons.{IsNone, sum_of, Moves, total_map}
use Rattle.wp_core.proofs.ActorsMove.{ActorParts, actors_move, at_front, front_or_last, each_more, each_map_more, at_map_more, have_more, total_set, set_same, people, person_still, person_was}
use Rattle.wp_core.proofs.AllParts.{SoIn, kept_part}

-- it stays as it was, but for whom it made and joined and what it learned, and may have fewer notes
pub record StaysAs (a b : Actor) : Type 0 where
  pub participant : b.participant ≡ a.participant
  pub held : b.held ≡ a.held
  pub reading : b.reading ≡ a.reading
  pub live : b.live ≡ a.live
  pub notes : (fact : Fact) → IsIn fact b.notes → IsIn fact a.notes
  pub no_notes : a.notes ≡ [] → b.notes ≡ []

-- an actor that learns, makes or joins another stays as it is, but for the notes that its step ends
pub stays_but : (a : Actor) (test : Fact → Bool) (learned : List Entry) (made : ℕ) (joined : List Participant) → StaysAs a (record a { notes = filter test a.notes; learned = learned; made = made; joined = joined })
stays_but a test learned made joined = record { participant = refl; held = refl; reading = refl; live = refl; notes = λ fact h. (in_filter test fact a.notes h).0; no_notes = λ e. ap (filter test) e }

pub idle_still : (a b : Actor) → StaysAs a b → IsIdle a → IsIdle b
idle_still a b same k = record {
  participant = same.participant ∙ (k.participant ∙ (λ i. new_participant_of (sym same.participant i)));
  held = same.held ∙ k.held;
  reading = same.reading ∙ k.reading;
  notes = same.no_notes k.notes;
}
  where
    new_participant_of : Participant → Participant
    new_participant_of p = (new_actor true p.client p.seen).participant

module _ (w : World) (by : ℕ) (a b : Actor) (live : Bool) (at : get_elem? w.actors by ≡ some a) (same : StaysAs a b) (same_joined : b.joined ≡ a.joined) (same_learned : b.learned ≡ a.learned) (s : IsSound w) where
  abbrev c : Actor
  c = new_actor live a.participant.client a.participant.seen

  abbrev first_actors : List Actor
  first_actors = set w.actors by b

  abbrev actors : List Actor
  actors = first_actors ++ c ∷ []

  same_people : people b ≡ people a
  same_people = λ i. same.participant i ∷ same_joined i

  seen_by : StartsWith w.writes.history a.participant.seen
  seen_by = s.seen by 0 a.participant.seen (mine seen_of w.actors by a a at refl)

  -- the new one has nothing
  new_is : (i : ℕ) (p : Participant) → get_elem? (people c) i ≡ some p → IsNone p × StartsWith w.writes.history p.seen
  new_is zero p e = let q : c.participant ≡ p = some-injective c.participant p e in subst (λ (z : Participant). IsNone z × StartsWith w.writes.history z.seen) q (refl, seen_by)
  new_is (suc i) p e = absurd (some-ne-none p (sym e))

  moves : Moves (λ j i. j) (λ j i. i) w.writes.history w.actors actors
  moves = record {
    apart = λ j i k l e f. (e, f);
    still = λ j i p k. let o = person_still w.actors by a b at same_people j i p k in inl (record { actor = o.actor; there = at_front first_actors (c ∷ []) j o.actor o.there; person = o.person });
    was = λ j i p k. ⊎_elim
        (λ (t : get_elem? first_actors j ≡ some k.actor). inl (record { at = j; at_place = i; person = person_was w.actors by a b at same_people j i p (record { actor = k.actor; there = t; person = k.person }); row_is = refl; place_is = refl }))
        (λ (t : c ≡ k.actor). inr (new_is i p (ap (λ (z : Actor). get_elem? (people z) i) t ∙ k.person)))
        (front_or_last first_actors c j k.actor k.there);
    sums = λ F none.
        let one : sum_of F b ≡ sum_of F a = λ i. F (same.participant i) + total F (same_joined i) in
        let k = total_set (sum_of F) w.actors by a b at in
        let l = total_more (sum_of F) first_actors c in
        let z : F c.participant ≡ 0 = none c.participant refl in
        omega arith;
  }

  parts : AreLed (map role_of actors) → ActorParts w actors
  parts led = record {
    learned = each_map_more learned_of (λ j x. StartsWith w.writes.history x) first_actors c (λ j. (w.writes.history, refl)) (kept_part w by a b at learned_of (AreLearned w.writes.history) same_learned s.learned);
    held = each_map_more held_of (AreHeld w.holders (content_of w)) first_actors c (λ j. tt) (kept_part w by a b at held_of (EachAt (AreHeld w.holders (content_of w))) same.held s.held);
    have = have_more w.holders first_actors c (kept_part w by a b at held_of (HoldersHave w.holders) same.held s.have);
    readers = each_map_more reader_of _ first_actors c (λ j r e. absurd cc) (kept_part w by a b at reader_of (AreReaders w.writes.history w.max_evicted w.cache w.prepared.delayed_commits w.snapshots) same_reader s.readers);
    judged = each_map_more reader_of _ first_actors c (λ j r visible e q. absurd cc) (kept_part w by a b at reader_of (AreJudged w.writes.history) same_reader s.judged);
    noted = each_map_more noter_of (λ j x. (fact : Fact) → IsIn fact x.1 → IsNoted w.holders (SoIn w) j x fact) first_actors c (λ j fact h. absurd h)
        (each_map_set noter_of (λ j x. (fact : Fact) → IsIn fact x.1 → IsNoted w.holders (SoIn w) j x fact) w.actors by b
        (λ fact h. let o = s.noted by (noter_of a) (at_map noter_of w.actors by a at) fact (same.notes fact h) in record { guarded = o.guarded; is_so = subst (λ (p : Participant). SoIn w p fact) (sym same.participant) o.is_so })
        (λ j x ne there. s.noted j x there));
    led = led;
    idle = each_more (λ j x. x.live ≡ false → IsIdle x) first_actors c (λ j dead. record { participant = refl; held = refl; reading = refl; notes = refl })
        (each_set (λ j x. x.live ≡ false → IsIdle x) w.actors by b (λ dead. idle_still a b same (s.idle by a at (sym same.live ∙ dead))) (λ j x ne there. s.idle j x there));
  }
    where
      same_reader : reader_of b ≡ reader_of a
      same_reader = λ i. ((same.participant i).registered, same.reading i)

  pub makes_actor : AreLed (map role_of actors) → IsSound (record w { actors = actors })
  makes_actor led = actors_move (λ j i. j) (λ j i. i) w actors by a at moves (parts led) s

-- ---- a note

led_note : (xs : List Actor) (c : Actor) → c.live ≡ false → c.made ≡ 0 → c.joined ≡ [] → AreLed (map role_of xs) → AreLed (map role_of (xs ++ c ∷ []))
led_note xs c dead none alone k =
    let m = total_map role_of (λ (r : Role). one_if r.live) (xs ++ c ∷ []) in
    let l = total_map role_of (λ (r : Role). one_if r.live) xs in
    let t = total_more (λ (x : Actor). one_if x.live) xs c in
    let z : one_if c.live ≡ 0 = ap one_if dead in
    let o = k.counted in
    record {
      first = k.first;
      there = at_map_more role_of xs c 0 k.first k.there;
      live = k.live;
      counted = omega arith;
      others = each_map_more role_of (λ j r. j ≢ 0 → (r.made ≡ 0) × (r.joined ≡ [])) xs c (λ j ne. (none, alone)) k.others;
    }

pub makes_note : (w : World) (by : ℕ) (a : Actor) → get_elem? w.actors by ≡ some a → Needs w by a make_note → IsSound w
    → IsSound (done w by (forgets w.writes.history (length w.cache) make_note a) make_note)
makes_note w by a at needs s =
    let c : Actor = new_actor false a.participant.client a.participant.seen in
    let still : set w.actors by a ≡ w.actors = set_same w.actors by a at in
    let led = led_note w.actors c refl refl refl s.led in
    let same : StaysAs a a = record { participant = refl; held = refl; reading = refl; live = refl; notes = λ fact h. h; no_notes = λ e. e } in
    subst (λ (z : List Actor). IsSound (record w { actors = z ++ c ∷ [] })) still
    (makes_actor w by a a false at same refl refl s (subst (λ (z : List Actor). AreLed (map role_of (z ++ c ∷ []))) (sym still) led))

-- ---- a seat

led_seat : (xs : List Actor) (a b c : Actor) → get_elem? xs 0 ≡ some a → b.live ≡ a.live → b.made ≡ a.made + 1 → b.joined ≡ a.joined → c.live ≡ true → c.made ≡ 0 → c.joined ≡ [] → AreLed (map role_of xs) → AreLed (map role_of (set xs 0 b ++ c ∷ []))
led_seat xs a b c at live made joined new none alone k =
    let first : k.first ≡ role_of a = some-injective k.first (role_of a) (sym k.there ∙ at_map role_of xs 0 a at) in
    let alive : b.live ≡ true = live ∙ (ap (λ (r : Role). r.live) (sym first) ∙ k.live) in
    let m = total_map role_of (λ (r : Role). one_if r.live) (set xs 0 b ++ c ∷ []) in
    let l = total_map role_of (λ (r : Role). one_if r.live) xs in
    let t = total_more (λ (x : Actor). one_if x.live) (set xs 0 b) c in
    let u = total_set (λ (x : Actor). one_if x.live) xs 0 a b at in
    let v : one_if b.live ≡ one_if a.live = ap one_if live in
    let z : one_if c.live ≡ 1 = ap one_if new in
    let o = k.counted in
    let p : length k.first.joined ≡ length b.joined = ap (λ (r : Role). length r.joined) first ∙ ap length (sym joined) in
    let q : k.first.made ≡ a.made = ap (λ (r : Role). r.made) first in
    record {
      first = role_of b;
      there = at_map_more role_of (set xs 0 b) c 0 (role_of b) (at_map role_of (set xs 0 b) 0 b (here xs 0 a b at));
      live = alive;
      counted = omega arith;
      others = each_map_more role_of (λ j r. j ≢ 0 → (r.made ≡ 0) × (r.joined ≡ [])) (set xs 0 b) c (λ j ne. (none, alone))
          (each_map_set role_of (λ j r. j ≢ 0 → (r.made ≡ 0) × (r.joined ≡ [])) xs 0 b (λ ne. absurd (ne refl)) (λ j x ne there. k.others j x there));
    }

pub makes_seat : (w : World) (by : ℕ) (a : Actor) → get_elem? w.actors by ≡ some a → Needs w by a make_seat → IsSound w
    → IsSound (done w by (forgets w.writes.history (length w.cache) make_seat a) make_seat)
makes_seat w by a at needs s =
    let b : Actor = made_one (forgets w.writes.history (length w.cache) make_seat a) in
    let c : Actor = new_actor true a.participant.client a.participant.seen in
    let same : StaysAs a b = stays_but a (λ (f : Fact). not (ends w.writes.history (length w.cache) make_seat f)) b.learned b.made b.joined in
    let at_first : get_elem? w.actors 0 ≡ some a = subst (λ (n : ℕ). get_elem? w.actors n ≡ some a) needs at in
    makes_actor w by a b true at same refl refl s
    (subst (λ (n : ℕ). AreLed (map role_of (set w.actors n b ++ c ∷ []))) (sym needs) (led_seat w.actors a b c at_first refl refl refl refl refl refl s.led))
