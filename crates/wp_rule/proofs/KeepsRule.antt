-- Each atomic step keeps the rule.
use Rattle.std.specs.Prelude.{MatchBool}
use Rattle.std.proofs.Common.{◌≡◌, ◌≢◌, ℕ, ◌<◌, eqb, true, List, length, get_or, set, refl, sym, subst, ap, ◌∙◌, inl, Option, Some, None, length-set, eq-eqb, ne_eqb, arith}
use mathlib.Core.Option.{some, none}
use mathlib.Core.Option as maybe
use mathlib.Core.Logic.{dite}
use native.Mathlib.Decide.{ℕ_discrete}
use prog.Atomic.{either}
use lib.ListN.{get_elem?}
use lib.Seq.{set-get_or}
use Rattle.atomic_table.specs.Table.{State, Me, step, Act, keeps, takes, gives, Valid, stepped, carried_after, put_back, Allows}
use Rattle.atomic_table.proofs.Lists.{set_here, set_else, set_again, exchanged}
use Rattle.wp_model.specs.declared.entry.Entry.{Entry}
use Rattle.wp_core.specs.Turns.{Turn, write_turn, prepared_turn, snapshots_turn, store_turn, locks_turn, tables_turn, turn_holder, with_holder}
use Rattle.wp_core.specs.States.{Content}
use Rattle.wp_core.specs.World.{Actor, World, content_of}
use Rattle.wp_core.specs.Changes.{turn_index}
use Rattle.wp_core.specs.Steps.{Step, give_turn}
use Rattle.wp_core.specs.Runs.{Reaches}
use Rattle.wp_core.proofs.Frames.{here}
use Rattle.wp_core.proofs.Gives.{now_holder, other_holder, same_turn}
use Rattle.wp_rule.specs.Words.{turn_word, words_of, turn_place, first_edit_of, Place, IsAt}
use Rattle.wp_rule.specs.Moves.{world_after_step, actor_after_step, world_after, actor_after, MayMake, MayStore, Leave}
use Rattle.wp_rule.specs.Shows.{WasLast, IsPart, Rests, Shows}
use Rattle.wp_rule.specs.Plays as plays
use Rattle.wp_rule.specs.Plays.{MayUnclaim, taking, with_turn}
use Rattle.wp_rule.proofs.Knows.{at_sound, held_is}
use Rattle.wp_rule.proofs.Needed.{needed}
use Rattle.wp_rule.proofs.Quiet.{quiet_steps, quiet_reached, there_after, same_contents, reached_next}
use Rattle.wp_rule.proofs.Takes.{table_of, taking_is_met, actor_taken, world_taken, taking_reached, may_give, knows_give}

-- ---- the words of the turns

pub turn_at : (w : World) (turn : Turn) → get_or (words_of w) (turn_place turn) 0 ≡ turn_word (turn_holder w.holders turn)
turn_at w write_turn = refl
turn_at w prepared_turn = refl
turn_at w snapshots_turn = refl
turn_at w store_turn = refl
turn_at w locks_turn = refl
turn_at w tables_turn = refl

turn_set : (w : World) (turn : Turn) (x : Option ℕ) → set (words_of w) (turn_place turn) (turn_word x) ≡ words_of (record w { holders = with_holder w.holders turn x })
turn_set w write_turn x = refl
turn_set w prepared_turn x = refl
turn_set w snapshots_turn x = refl
turn_set w store_turn x = refl
turn_set w locks_turn x = refl
turn_set w tables_turn x = refl

turn_low : (turn : Turn) → turn_index turn < 6
turn_low write_turn = omega arith
turn_low prepared_turn = omega arith
turn_low snapshots_turn = omega arith
turn_low store_turn = omega arith
turn_low locks_turn = omega arith
turn_low tables_turn = omega arith

free_word : (h : Option ℕ) → turn_word h ≡ 0 → h ≡ None
free_word None e = refl
free_word (Some by) e = absurd (omega arith)

held_word : (h : Option ℕ) → turn_word h ≢ 0 → h ≢ None
held_word None ne e = ne refl
held_word (Some by) ne e = absurd (cc)

-- a test of the word that was found
pub chosen : (n : ℕ) (A B : Type 0) → (n ≡ 0 → A) → (n ≢ 0 → B) → MatchBool (eqb n 0) A B
chosen n A B h k = dite (ℕ_discrete n 0) (λ e. subst (λ b. MatchBool b A B) (sym (eq-eqb n 0 e)) (h e)) (λ ne. subst (λ b. MatchBool b A B) (sym (ne_eqb n 0 ne)) (k ne))

module _ {S : Type 0} (content : S → Option Content) (tells : S → Type 0) (first : List S) (opened : List Entry) (cells : ℕ) where
  abbrev St : Type 0
  St = State S Actor

  abbrev Rule : St → Type 0
  Rule = Shows content tells first opened cells

  abbrev place : ℕ → Place
  place id = record { opened = opened; cells = cells; first_edit = first_edit_of content first; by = id }

  abbrev Home : Type 0
  Home = maybe.Option (maybe.Option S)

  pub at_world : (s : St) (r : Rule s) (id : ℕ) (a : Actor) → get_elem? s.views id ≡ some a → IsAt (place id) a r.world
  at_world s r id a at = record { reached = r.reached; opened = r.opened_is; cells = r.cells_are; first_edit = r.first_edit; there = subst (λ (views : List Actor). get_elem? views id ≡ some a) r.views at }

  rests_again : (h : Option ℕ) (c c' : Content) (home : Home) → (h ≡ None → c' ≡ c) → Rests content tells h c home → Rests content tells h c' home
  rests_again None c c' home same r = (r.0, r.1, (r.2.0 ∙ ap Some (sym (same refl)), r.2.1))
  rests_again (Some by) c c' home same r = r

  pub rests_still : (h h' : Option ℕ) (c c' : Content) (home : Home) → h' ≡ h → (h ≡ None → c' ≡ c) → Rests content tells h c home → Rests content tells h' c' home
  rests_still h h' c c' home e same r = subst (λ (x : Option ℕ). Rests content tells x c' home) (sym e) (rests_again h c c' home same r)

  -- steps that leave the turns, with these words
  left : (s : St) (r : Rule s) (id : ℕ) (words words' : List ℕ) (last : World) (b : Actor) → Reaches last → Leave id r.world words last b → words' ≡ words → Rule record { words = words'; homes = s.homes; views = set s.views id b }
  left s r id words words' last b reached l same = record {
    world = last;
    reached = reached;
    opened_is = l.opened ∙ r.opened_is;
    cells_are = l.cells ∙ r.cells_are;
    first_edit = subst (WasLast content first) (sym l.first_edit) r.first_edit;
    words = same ∙ sym l.words_are;
    deep = r.deep;
    rests = λ turn. rests_still (turn_holder r.world.holders turn) (turn_holder last.holders turn) (content_of r.world turn) (content_of last turn) (get_elem? s.homes (turn_index turn)) (ap (λ h. turn_holder h turn) l.holders) (l.contents turn) (r.rests turn);
    views = ap (λ (views : List Actor). set views id b) r.views ∙ sym l.actors;
  }

  at_last : (s : St) (r : Rule s) (id : ℕ) (a b : Actor) (words : List ℕ) (last : World) → get_elem? s.views id ≡ some a → Reaches last → Leave id r.world words last b → IsAt (place id) b last
  at_last s r id a b words last at reached l = let k = at_world s r id a at in record { reached = reached; opened = l.opened ∙ k.opened; cells = l.cells ∙ k.cells; first_edit = k.first_edit ∙ ap Some (sym l.first_edit); there = there_after r.world last id a b words k.there l }

  pub loads : (slots id i : ℕ) (m : Me S Actor) (p : Place) (steps : World → List Step) → p ≡ place id → MayMake p m.0 steps → Allows Rule slots id m i (λ n. n) (plays.loads p steps (step slots i 0 0 none) m)
  loads slots id i m p steps is may = subst (λ (q : Place). MayMake q m.0 steps → Allows Rule slots id m i (λ n. n) (plays.loads q steps (step slots i 0 0 none) m)) (sym is) (λ may' s r deep at low.
      let w = r.world in let k = at_world s r id m.0 at in let d = may' w k in let last : World = world_after (steps w) w id m.0 in let b : Actor = actor_after (steps w) w id m.0 in
      let reached : Reaches last = quiet_reached (steps w) w id m.0 k.there r.reached d.0 d.1 in
      let l = quiet_steps (steps w) w id m.0 k.there d.0 d.1 in (
        b,
        keeps,
        tt,
        left s r id (words_of w) (set s.words i (get_or s.words i 0)) last b reached l (set-get_or s.words i 0 ∙ r.words),
        (refl, record { world = w; before = k; met = d.1; after = at_last s r id m.0 b (words_of w) last at reached l; actor = refl; so_is = ap (λ (words : List ℕ). get_or words i 0) r.words }),
      )) may

  pub stores : (slots id i n : ℕ) (m : Me S Actor) (p : Place) (steps : World → List Step) → p ≡ place id → MayStore p m.0 steps i n → Allows Rule slots id m i (λ _. n) (λ _. plays.stores p steps (step slots i n 0 none) m n)
  stores slots id i n m p steps is may = subst (λ (q : Place). MayStore q m.0 steps i n → Allows Rule slots id m i (λ _. n) (λ _. plays.stores q steps (step slots i n 0 none) m n)) (sym is) (λ may' s r deep at low.
      let w = r.world in let k = at_world s r id m.0 at in let d = may' w k in let last : World = world_after (steps w) w id m.0 in let b : Actor = actor_after (steps w) w id m.0 in (
        b,
        keeps,
        tt,
        left s r id (set (words_of w) i n) (set s.words i n) last b d.1 d.2 (ap (λ (words : List ℕ). set words i n) r.words),
        (refl, record { world = w; before = k; met = d.0; after = at_last s r id m.0 b (set (words_of w) i n) last at d.1 d.2; actor = refl; so_is = tt }),
      )) may

  -- ---- turns

  -- the turn has another holder, and its home is as that says
  turned : (s : St) (r : Rule s) (id : ℕ) (turn : Turn) (x : Option ℕ) (b : Actor) (last : World) (homes : List (maybe.Option S)) → Reaches last → last ≡ record r.world { holders = with_holder r.world.holders turn x; actors = set r.world.actors id b }
      → length homes ≡ 6 → Rests content tells x (content_of r.world turn) (get_elem? homes (turn_index turn)) → ((u : ℕ) → u ≢ turn_index turn → get_elem? homes u ≡ get_elem? s.homes u)
      → Rule record { words = set s.words (turn_place turn) (turn_word x); homes = homes; views = set s.views id b }
  turned s r id turn x b last homes reached is deep here' others =
      let w = r.world in let next : World = record w { holders = with_holder w.holders turn x; actors = set w.actors id b } in
      let same : (u : Turn) → content_of next u ≡ content_of w u = same_contents w next refl refl refl refl refl refl in record {
        world = next;
        reached = subst Reaches is reached;
        opened_is = r.opened_is;
        cells_are = r.cells_are;
        first_edit = r.first_edit;
        words = ap (λ (words : List ℕ). set words (turn_place turn) (turn_word x)) r.words ∙ turn_set w turn x;
        deep = deep;
        rests = λ u. dite (ℕ_discrete (turn_index u) (turn_index turn))
            (λ (e : turn_index u ≡ turn_index turn). subst (λ (t : Turn). Rests content tells (turn_holder next.holders t) (content_of next t) (get_elem? homes (turn_index t))) (sym (same_turn turn u e))
            (rests_still x (turn_holder next.holders turn) (content_of w turn) (content_of next turn) (get_elem? homes (turn_index turn)) (now_holder w.holders turn x) (λ free. same turn) here'))
            (λ (ne : turn_index u ≢ turn_index turn). subst (λ (home : Home). Rests content tells (turn_holder next.holders u) (content_of next u) home) (sym (others (turn_index u) ne))
            (rests_still (turn_holder w.holders u) (turn_holder next.holders u) (content_of w u) (content_of next u) (get_elem? s.homes (turn_index u)) (other_holder w.holders turn u x ne) (λ free. same u) (r.rests u)));
        views = ap (λ (views : List Actor). set views id b) r.views;
      }

  pub is_home : (h : Option ℕ) (c : Content) (home : Home) → h ≡ None → Rests content tells h c home → (x : S) × (home ≡ some (some x)) × IsPart content tells x c
  is_home None c home e r = r
  is_home (Some by) c home e r = absurd (cc)

  is_out : (h : Option ℕ) (by : ℕ) (c : Content) (home : Home) → h ≡ Some by → Rests content tells h c home → home ≡ some none
  is_out None by c home e r = absurd (cc)
  is_out (Some j) by c home e r = r

  abbrev Claim : ℕ → Turn → Me S Actor → St → ℕ → ℕ → Type 0
  Claim id turn m s found x = (w : Actor) × (a : Act S) × Valid s.homes m.1 a × Rule (stepped s (turn_place turn) x id m.1 w a) × plays.claims content tells (place id) turn (step 6 (turn_place turn) 0 1 none) m found (w, carried_after m.1 a)

  claimed : (id : ℕ) (turn : Turn) (m : Me S Actor) (s : St) (r : Rule s) → m.0.live ≡ true → get_elem? s.views id ≡ some m.0 → get_or s.words (turn_place turn) 0 ≡ 0 → Claim id turn m s (get_or s.words (turn_place turn) 0) 1
  claimed id turn m s r live at zero =
      let w = r.world in let k = at_world s r id m.0 at in let sound = at_sound (place id) m.0 w k in
      let free : turn_holder w.holders turn ≡ None = free_word (turn_holder w.holders turn) (sym (turn_at w turn) ∙ (ap (λ (words : List ℕ). get_or words (turn_place turn) 0) (sym r.words) ∙ zero)) in
      let h = is_home (turn_holder w.holders turn) (content_of w turn) (get_elem? s.homes (turn_index turn)) free (r.rests turn) in
      let x : S = h.0 in let b : Actor = with_turn turn w m.0 in let may = may_give w turn sound free in
      let last : World = record w { holders = with_holder w.holders turn (Some id); actors = set w.actors id b } in
      let met = taking_is_met w id m.0 sound live turn free in let same : world_after (taking turn w) w id m.0 ≡ last = world_taken w id m.0 turn in
      let reached : Reaches last = subst Reaches same (taking_reached w id m.0 turn k.there r.reached met) in
      let deep = r.deep in let low = turn_low turn in (
        b,
        takes (turn_index turn) x,
        h.1,
        turned s r id turn (Some id) b last (set s.homes (turn_index turn) none) reached refl (length-set s.homes (turn_index turn) none ∙ r.deep) (set_here s.homes (turn_index turn) none (omega arith)) (λ u ne. set_else s.homes (turn_index turn) u none ne),
        (
          (λ zero'. record {
            value = x;
            moved = record {
              world = w;
              before = k;
              met = met;
              after = subst (IsAt (place id) b) (sym same) (record { reached = reached; opened = k.opened; cells = k.cells; first_edit = k.first_edit; there = here w.actors id m.0 b k.there });
              actor = sym (actor_taken w id m.0 turn);
              so_is = (free, h.2, may);
            };
            after = refl;
            back = record {
              value = x;
              last_taken = refl;
              left = record { state = content_of w turn; held = inl refl; of_turn = table_of w turn; is_part = h.2 };
              may = λ v there. needed (place id) b v there (give_turn turn) (knows_give w m.0 turn may);
            };
          }),
          λ ne. absurd (ne zero),
        ),
      )

  missed : (id : ℕ) (turn : Turn) (m : Me S Actor) (s : St) (r : Rule s) → get_elem? s.views id ≡ some m.0 → get_or s.words (turn_place turn) 0 ≢ 0 → Claim id turn m s (get_or s.words (turn_place turn) 0) (get_or s.words (turn_place turn) 0)
  missed id turn m s r at ne = (
    m.0,
    keeps,
    tt,
    subst (λ (z : List ℕ × List Actor). Rule record { words = z.0; homes = s.homes; views = z.1 }) (λ i. (sym (set-get_or s.words (turn_place turn) 0) i, sym (set_again s.views id m.0 at) i)) r,
    (
      (λ zero. absurd (ne zero)),
      λ ne'. record {
        same = refl;
        world = r.world;
        before = at_world s r id m.0 at;
        held = held_word (turn_holder r.world.holders turn) (λ e. ne (ap (λ (words : List ℕ). get_or words (turn_place turn) 0) r.words ∙ (turn_at r.world turn ∙ e)));
      },
    ),
  )

  -- ---- giving

  given : (id : ℕ) (turn : Turn) (m : Me S Actor) → MayUnclaim content tells (place id) turn m
      → Allows Rule 6 id m (turn_place turn) (λ _. 0) (λ _. plays.unclaims (place id) turn (step 6 (turn_place turn) 0 0 none) m 0)
  given id turn m may s r deep at low =
      let w = r.world in let k = at_world s r id m.0 at in let n = may.may w k in let it = may.left in
      let has = held_is (place id) m.0 w it.state k it.held in
      let same : content_of w turn ≡ it.state = subst (λ (t : Turn). content_of w t ≡ it.state) it.of_turn has.1 in
      let out : get_elem? s.homes (turn_index turn) ≡ some none = is_out (turn_holder w.holders turn) id (content_of w turn) (get_elem? s.homes (turn_index turn)) n.0 (r.rests turn) in
      let b : Actor = actor_after_step w m.0 (give_turn turn) in let next : World = world_after_step w id m.0 (give_turn turn) in
      let reached : Reaches next = reached_next w id m.0 (give_turn turn) k.there r.reached n in
      let homes : List (maybe.Option S) = set s.homes (turn_index turn) (some may.value) in
      let back : put_back s.homes m.1 ≡ homes = ap (put_back s.homes) may.last_taken in
      let six = r.deep in let under = turn_low turn in (
        b,
        gives,
        tt,
        subst (λ (z : List (maybe.Option S)). Rule record { words = set s.words (turn_place turn) 0; homes = z; views = set s.views id b }) (sym back)
            (turned s r id turn None b next homes reached refl (length-set s.homes (turn_index turn) (some may.value) ∙ r.deep)
            (may.value, set_here s.homes (turn_index turn) (some may.value) (omega arith), (it.is_part.0 ∙ ap Some (sym same), it.is_part.1)) (λ u ne. set_else s.homes (turn_index turn) u (some may.value) ne)),
        (refl, record { world = w; before = k; met = (n, tt); after = record { reached = reached; opened = k.opened; cells = k.cells; first_edit = k.first_edit; there = here w.actors id m.0 b k.there }; actor = refl; so_is = tt }),
      )

  pub unclaims : (slots id word : ℕ) (m : Me S Actor) (p : Place) (turn : Turn) → p ≡ place id → word ≡ turn_place turn → MayUnclaim content tells p turn m
      → Allows Rule slots id m word (λ _. 0) (λ _. plays.unclaims p turn (step slots word 0 0 none) m 0)
  unclaims slots id word m p turn is which may =
      subst (λ (q : Place × ℕ). MayUnclaim content tells q.0 turn m → Allows Rule slots id m q.1 (λ _. 0) (λ _. plays.unclaims q.0 turn (step slots q.1 0 0 none) m 0)) (λ i. (sym is i, sym which i)) (λ may' s r deep at low. given id turn m may' s r r.deep at low) may

-- ---- taking

module _ {S : Type 0} (content : S → Option Content) (tells : List S → S → Type 0) (first : List S) (opened : List Entry) (cells : ℕ) where
  pub claims : (slots id word : ℕ) (m : Me S Actor) (p : Place) (turn : Turn) (told : List S) → p ≡ place content (tells first) first opened cells id → word ≡ turn_place turn → told ≡ first → m.0.live ≡ true
      → Allows (Shows content (tells first) first opened cells) slots id m word (λ n. either (eqb n 0) 1 n) (plays.claims content (tells told) p turn (step slots word 0 1 none) m)
  claims slots id word m p turn told is which same live =
      subst (λ (q : (Place × ℕ) × List S). Allows (Shows content (tells first) first opened cells) slots id m q.0.1 (λ n. either (eqb n 0) 1 n) (plays.claims content (tells q.1) q.0.0 turn (step slots q.0.1 0 1 none) m)) (λ i. ((sym is i, sym which i), sym same i))
      (λ s r deep at low. exchanged (get_or s.words (turn_place turn) 0) 0 1 (Claim content (tells first) first opened cells id turn m s (get_or s.words (turn_place turn) 0)) (claimed content (tells first) first opened cells id turn m s r live at) (missed content (tells first) first opened cells id turn m s r at))
