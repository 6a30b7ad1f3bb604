-- A log is repaired.
use Rattle.std.proofs.Common.{◌≡◌, ◌≢◌, inl, inr, ℕ, ◌+◌, List, [], ◌∷◌, ◌++◌, length, take, drop, Option, None, Some, Result, Ok, refl, sym, ◌∙◌, ap, subst, arith, length-append}
use Rattle.std.proofs.lemmas.List.{append_assoc, take_at, map_push}
use Rattle.wp_outside.specs.Disk.{Moment, IsImage, synced, after_write, after_cut, Each}
use Rattle.wp_gatelog.specs.declared.gate.GateByte.{GateByte}
use Rattle.wp_gatelog.specs.Changes.{Changes, BringsTo}
use Rattle.wp_gatelog.specs.Log.{IsAtRest, last_gate}
use Rattle.wp_gatelog.specs.Moments.{IsSynced}
use Rattle.wp_gatelog.specs.Repair.{IsReadLog, HasFront, Reopens, IsRepaired}
use Rattle.wp_gatelog.specs.Scanning.{IsLast}
use Rattle.wp_gatelog.specs.Spelling.{Gated, Stamp, IsOpen, framed, identity, all_gated, log_of, records_of}
use Rattle.wp_gatelog.proofs.AppendLemmas.{records_more, last_gate_more, log_more, log_longer}
use Rattle.wp_gatelog.proofs.AcknowledgedLemmas.{spares_cut, spares_head, spares_last}
use Rattle.wp_gatelog.proofs.ChangeLemmas.{brings_of, brings_on}
use Rattle.wp_gatelog.proofs.HeadLemmas.{length-identity}
use Rattle.wp_gatelog.proofs.MomentLemmas.{image_of_cut, image_of_gate, known_as, known_map}
use Rattle.wp_gatelog.proofs.StandLemmas.{stands_behind, stands_gate, stands_head}

-- ---- one step

length_closed : (front : List ℕ) (end : ℕ) → end ≡ length front → end + 1 ≡ length (front ++ 0 ∷ [])
length_closed front end is = omega (arith, is, length-append front (0 ∷ []))

pub has_front_cut : (front following : List ℕ) (end : ℕ) → end ≡ length front → (image : List ℕ) → IsImage (after_cut (end + 1) (synced (front ++ 0 ∷ following))) image → HasFront front image
has_front_cut front following end is image h =
    let split : front ++ 0 ∷ following ≡ (front ++ 0 ∷ []) ++ following = sym (append_assoc front (0 ∷ []) following) in
    let found = image_of_cut (front ++ 0 ∷ []) following image (end + 1) (length_closed front end is) (subst (λ (l : List ℕ). IsImage (after_cut (end + 1) (synced l)) image) split h) in
    (found.0, found.1 ∙ append_assoc front (0 ∷ []) found.0)

-- nothing follows the closed gate
pub nothing_follows : (front following : List ℕ) → length (front ++ 0 ∷ following) ≡ length front + 1 → front ++ 0 ∷ following ≡ front ++ 0 ∷ []
nothing_follows front [] size = refl
nothing_follows front (b ∷ following) size = absurd (omega (arith, length-append front (0 ∷ b ∷ following)))

pub taken_cut : (front following : List ℕ) (end : ℕ) → end ≡ length front → take (end + 1) (front ++ 0 ∷ following) ≡ front ++ 0 ∷ []
taken_cut front following end is =
    ap (λ (l : List ℕ). take (end + 1) l) (sym (append_assoc front (0 ∷ []) following)) ∙ take_at (front ++ 0 ∷ []) following (end + 1) (sym (length_closed front end is))

pub reopens_written : (front following : List ℕ) (at byte : ℕ) → at ≡ length front → byte ≢ 1 → (image : List ℕ) → IsImage (after_write at (1 ∷ []) (synced (front ++ byte ∷ following))) image → Reopens front byte following image
reopens_written front following at byte is odd image h =
    let found = image_of_gate front at byte following image is h in
    (odd, found.0, found.1, found.2)

-- ---- step after step

pub each_but_last : (before : List Gated) (last : Gated) → Each IsOpen (before ++ last ∷ []) → Each IsOpen before × IsOpen last
each_but_last [] last each = (tt, each.0)
each_but_last (g ∷ before) last each = let rest = each_but_last before last each.1 in ((each.0, rest.0), rest.1)

module _ (start : ℕ) (magic : List ℕ) (stamp : Stamp) (head : ℕ) (gated : List Gated) where
  repaired_cut : (image : List ℕ) → HasFront (log_of magic stamp head gated) image → IsRepaired magic stamp head gated image
  repaired_cut image front = inl front

  repaired_head : (image : List ℕ) → Reopens [] head ((identity magic stamp ++ all_gated gated) ++ 0 ∷ []) image → IsRepaired magic stamp head gated image
  repaired_head image w =
      inr (inl (w.0, w.1, (w.2, w.3 ∙ ap (λ (l : List ℕ). w.1 ∷ l) (append_assoc (identity magic stamp ++ all_gated gated) (0 ∷ []) w.2))))

  repaired_last : (gate : GateByte) (last : IsLast start (Some gate) gated) (image : List ℕ) → Reopens (log_of magic stamp 1 last.0) gate.byte (framed last.1 ++ 0 ∷ []) image → IsRepaired magic stamp head gated image
  repaired_last gate last image w =
      let opened = w.3 ∙ ap (λ (l : List ℕ). log_of magic stamp 1 last.0 ++ w.1 ∷ l) (append_assoc (framed last.1) (0 ∷ []) w.2) in
      inr (inr (last.0, record { gate = gate.byte; bytes = last.1 }, w.1, last.2, w.0, (w.2, log_longer magic stamp 1 last.0 w.1 last.1 w.2 image opened)))

  -- the log before its last record
  pub last_split : (gate : GateByte) (last : IsLast start (Some gate) gated) → log_of magic stamp 1 gated ++ 0 ∷ [] ≡ log_of magic stamp 1 last.0 ++ gate.byte ∷ (framed last.1 ++ 0 ∷ [])
  last_split gate last =
      ap (λ (gs : List Gated). log_of magic stamp 1 gs ++ 0 ∷ []) last.2
      ∙ sym (log_longer magic stamp 1 last.0 gate.byte last.1 [] (log_of magic stamp 1 last.0 ++ gate.byte ∷ (framed last.1 ++ 0 ∷ [])) refl)

  pub last_place : (gate : GateByte) (last : IsLast start (Some gate) gated) (place : ℕ) → start ≡ place + 10 → length magic ≡ 4 → gate.at ≡ place + length (log_of magic stamp 1 last.0)
  last_place gate last place begins four = omega (arith, last.3, begins, length-identity magic stamp four, length-append (identity magic stamp) (all_gated last.0))

-- ---- at rest

module _ (front magic : List ℕ) (stamp : Stamp) (head : ℕ) (records : List (List ℕ)) (found : Option GateByte) (end len : ℕ) (bytes : List ℕ) (log : IsReadLog front magic stamp head records found end len bytes) where
  abbrev start : ℕ
  start = length front + 10

  rests_last : (gate : GateByte) (last : IsLast start (Some gate) log.gated) (m : Moment) → m ≡ synced (front ++ (log_of magic stamp 1 last.0 ++ 1 ∷ (framed last.1 ++ 0 ∷ []))) → IsAtRest magic stamp end front [] records m
  rests_last gate last m on =
      let before : List Gated = last.0 in
      let found : List ℕ = last.1 in
      let opened = each_but_last before (record { gate = gate.byte; bytes = found }) (subst (λ (gs : List Gated). Each IsOpen gs) last.2 log.has_log.gates_open) in
      record {
        gated = before ++ record { gate = 1; bytes = found } ∷ [];
        acknowledged = record {
          gates_open = records_more before 1 found opened.0 (record { gate = (λ e. cc e); length_fits = opened.1.length_fits });
          last = last_gate_more 1 before 1 found;
          same = log.same ∙ ap records_of last.2 ∙ map_push (λ (g : Gated). g.bytes) before (record { gate = gate.byte; bytes = found }) ∙ sym (map_push (λ (g : Gated). g.bytes) before (record { gate = 1; bytes = found }));
        };
        place = omega (
          arith,
          log.place,
          ap (λ (gs : List Gated). length (log_of magic stamp head gs)) last.2,
          ap length (log_more magic stamp head before gate.byte found),
          ap length (log_more magic stamp 1 before 1 found),
          length-append (log_of magic stamp head before) (gate.byte ∷ framed found),
          length-append (log_of magic stamp 1 before) (1 ∷ framed found),
        );
        on_disk = on ∙ ap (λ (l : List ℕ). synced (front ++ l)) (log_longer magic stamp 1 before 1 found [] (log_of magic stamp 1 before ++ 1 ∷ (framed found ++ 0 ∷ [])) refl);
      }

  rests_none : IsLast start None log.gated → (m : Moment) → m ≡ synced (front ++ (log_of magic stamp 1 log.gated ++ 0 ∷ [])) → IsAtRest magic stamp end front [] records m
  rests_none none m on = record {
    gated = log.gated;
    acknowledged = record { gates_open = log.has_log.gates_open; last = ap (last_gate 1) none; same = log.same };
    place = log.place;
    on_disk = on;
  }

  -- ---- call by call

  -- what a cut behind the closed gate makes of this log's bytes, and what opening its head's gate wholly makes of the rest
  abbrev pub Cuts : {T E : Type 0} → List Moment → List Moment → Result T E → Type 0
  Cuts old new result = (first inner following : List ℕ) → end ≡ length first + length inner → len ≡ length first + length (inner ++ 0 ∷ following) → IsSynced (first ++ (inner ++ 0 ∷ following)) old
      → Changes first (HasFront inner) (inner ++ 0 ∷ following) (inner ++ 0 ∷ []) old new result

  abbrev pub OpensHead : {T E : Type 0} → ℕ → List Moment → List Moment → Result T E → Type 0
  OpensHead place old new result = (first inner following : List ℕ) → place ≡ length first + length inner → IsSynced (first ++ (inner ++ head ∷ following)) old
      → Changes first (Reopens inner head following) (inner ++ head ∷ following) (inner ++ 1 ∷ following) old new result

  -- the log is repaired behind the front
  abbrev pub Repaired : List ℕ → Type 0
  Repaired image = IsRepaired magic stamp head log.gated (drop (length front) image)

  -- once the rest is cut, and once the head's gate is open wholly too
  abbrev pub BringsCut : {T E : Type 0} → List Moment → List Moment → Result T E → Type 0
  BringsCut = BringsTo (length front) magic Repaired (λ m. m ≡ synced (front ++ (log_of magic stamp head log.gated ++ 0 ∷ [])))

  abbrev pub BringsHead : {T E : Type 0} → List Moment → List Moment → Result T E → Type 0
  BringsHead = BringsTo (length front) magic Repaired (λ m. m ≡ synced (front ++ (log_of magic stamp 1 log.gated ++ 0 ∷ [])))

  pub brings_cut : {T E : Type 0} (old new : List Moment) (result : Result T E) → Cuts old new result → IsSynced (front ++ bytes) old → BringsCut old new result
  brings_cut old new result cuts known =
      let inner : List ℕ = log_of magic stamp head log.gated in
      let changes = cuts front inner log.has_log.rest log.place (log.size ∙ ap (λ (l : List ℕ). length front + length l) log.has_log.spelling) (known_as _ _ _ (ap (λ (l : List ℕ). front ++ l) log.has_log.spelling) known) in
      brings_of front magic (HasFront inner) Repaired (λ m. m ≡ synced (front ++ (inner ++ 0 ∷ []))) (inner ++ 0 ∷ log.has_log.rest) (inner ++ 0 ∷ []) old new result
      (λ other others. spares_cut magic other stamp head others log.gated log.has_log.rest log.has_log.gates_open)
      (λ other others. stands_behind magic stamp head log.gated log.has_log.head_open log.has_log.gates_open other others log.has_log.rest [])
      (λ image h. repaired_cut start magic stamp head log.gated (drop (length front) image) h) (λ m on. on) changes

  pub brings_head : {T U E : Type 0} (x : T) (place : ℕ) (old mid new : List Moment) (result : Result U E) → place ≡ length front → BringsCut {T = T} {E = E} old mid (Ok x) → OpensHead place mid new result → BringsHead old new result
  brings_head x place old mid new result at cut opens =
      let tail : List ℕ = (identity magic stamp ++ all_gated log.gated) ++ 0 ∷ [] in
      brings_on (length front) magic Repaired (λ m. m ≡ synced (front ++ head ∷ tail)) (λ m. m ≡ synced (front ++ 1 ∷ tail)) old mid new x result cut
      (brings_of front magic (Reopens [] head tail) Repaired (λ m. m ≡ synced (front ++ 1 ∷ tail)) (head ∷ tail) (1 ∷ tail) mid new result
      (λ other others. spares_head magic other head others tail) (λ other others. stands_head magic other head others tail)
      (λ image h. repaired_head start magic stamp head log.gated (drop (length front) image) h) (λ m on. on) (opens front [] tail (omega (arith, at)) cut.done))

  pub brings_last : {T E : Type 0} (gate : GateByte) (last : IsLast start (Some gate) log.gated) (old new : List Moment) (result : Result T E)
      → Changes front (Reopens (log_of magic stamp 1 last.0) gate.byte (framed last.1 ++ 0 ∷ [])) (log_of magic stamp 1 last.0 ++ gate.byte ∷ (framed last.1 ++ 0 ∷ [])) (log_of magic stamp 1 last.0 ++ 1 ∷ (framed last.1 ++ 0 ∷ [])) old new result
      → BringsTo (length front) magic Repaired (IsAtRest magic stamp end front [] records) old new result
  brings_last gate last old new result changes =
      let inner : List ℕ = log_of magic stamp 1 last.0 in
      let tail : List ℕ = framed last.1 ++ 0 ∷ [] in
      brings_of front magic (Reopens inner gate.byte tail) Repaired (IsAtRest magic stamp end front [] records) (inner ++ gate.byte ∷ tail) (inner ++ 1 ∷ tail) old new result
      (λ other others. spares_last magic other stamp others last.0 gate.byte last.1 (subst (λ (gs : List Gated). Each IsOpen gs) last.2 log.has_log.gates_open))
      (λ other others. stands_gate magic stamp 1 last.0 (λ e. cc e)
      (each_but_last last.0 (record { gate = gate.byte; bytes = last.1 }) (subst (λ (gs : List Gated). Each IsOpen gs) last.2 log.has_log.gates_open)).0 other others gate.byte tail)
      (λ image h. repaired_last start magic stamp head log.gated gate last (drop (length front) image) h) (rests_last gate last) changes

  -- a log without records is at rest once its head's gate is open wholly
  pub brings_none : {T U E F : Type 0} (x : T) (y : U) → IsLast start None log.gated → (old new : List Moment)
      → BringsHead {T = T} {E = E} old new (Ok x) → BringsTo {T = U} {E = F} (length front) magic Repaired (IsAtRest magic stamp end front [] records) old new (Ok y)
  brings_none x y none old new brings = record {
    passed = brings.passed;
    durable = brings.durable;
    done = known_map (λ m. m ≡ synced (front ++ (log_of magic stamp 1 log.gated ++ 0 ∷ []))) (IsAtRest magic stamp end front [] records) (rests_none none) new brings.done;
    stands = brings.stands;
  }
