-- What the record of a disk in memory gives when it is read again.
use Rattle.std.proofs.Common.{◌≡◌, ℕ, ◌+◌, ◌<◌, ◌≤◌, Vec, Global, vec_capacity, List, [], ◌∷◌, ◌++◌, length, take, drop, sum_by, fold, subst, sym, ◌∙◌, ap, refl, le_refl, arith, length-append, length-drop}
use Rattle.std.proofs.lemmas.List.{length-take-le, take-append-le, drop-append-le, take_all}
use Rattle.std.proofs.lemmas.List.Sums.{fold-append, sum_by-cons, sum_by_push}
use Rattle.wp_memory.specs.declared.mem_disk.Change.{Change}
use Rattle.wp_memory.specs.declared.mem_disk.Change.TheVariants.{Write, Cut, Sync}
use Rattle.wp_memory.specs.declared.mem_disk.MemDisk.TheInside.{Inside}
use Rattle.wp_outside.specs.Disk.{Moment, IfKnown, synced, added}
use Rattle.wp_outside.specs.Faults.{risen}
use Rattle.wp_memory.specs.MemDisk.{Effect, Wrote, Shortened, Synced, DiskState, after, contents, now_of, moments_of, bytes_of_effect}
use Rattle.wp_memory.specs.Replay.{effects_of, bytes_of_change, disk_state, IsReplayed}

-- as many bytes as were written
pub written_again : (past : List Change) (written : List ℕ) → sum_by bytes_of_change past ≤ length written → sum_by bytes_of_effect (effects_of past written) ≡ sum_by bytes_of_change past
written_again [] written fits = refl
written_again (Write at len ∷ past) written fits =
    let all : sum_by bytes_of_change (Write at len ∷ past) ≡ len + sum_by bytes_of_change past = sum_by-cons bytes_of_change (Write at len) past in
    let front : length (take len written) ≡ len = length-take-le len written (omega arith) in
    let rest : sum_by bytes_of_effect (effects_of past (drop len written)) ≡ sum_by bytes_of_change past =
    written_again past (drop len written) (omega (arith, length-drop len written)) in
    sum_by-cons bytes_of_effect (Wrote at (take len written)) (effects_of past (drop len written)) ∙ (omega arith)
written_again (Cut len ∷ past) written fits =
    let all : sum_by bytes_of_change (Cut len ∷ past) ≡ 0 + sum_by bytes_of_change past = sum_by-cons bytes_of_change (Cut len) past in
    let rest : sum_by bytes_of_effect (effects_of past written) ≡ sum_by bytes_of_change past = written_again past written (omega arith) in
    sum_by-cons bytes_of_effect (Shortened len) (effects_of past written) ∙ omega arith
written_again (Sync ∷ past) written fits =
    let all : sum_by bytes_of_change (Sync ∷ past) ≡ 0 + sum_by bytes_of_change past = sum_by-cons bytes_of_change Sync past in
    let rest : sum_by bytes_of_effect (effects_of past written) ≡ sum_by bytes_of_change past = written_again past written (omega arith) in
    sum_by-cons bytes_of_effect Synced (effects_of past written) ∙ omega arith

-- what a change has done that wrote this piece
abbrev pub effect_of : Change → List ℕ → Effect
effect_of (Write at len) piece = Wrote at piece
effect_of (Cut len) piece = Shortened len
effect_of Sync piece = Synced

first_effect : (change : Change) (piece : List ℕ) → bytes_of_change change ≡ length piece → effects_of (change ∷ []) piece ≡ effect_of change piece ∷ []
first_effect (Write at len) piece size =
    ap (λ n. Wrote at (take n piece) ∷ []) size ∙ ap (λ xs. Wrote at xs ∷ []) (take_all (length piece) piece (le_refl (length piece)))
first_effect (Cut len) piece size = refl
first_effect Sync piece size = refl

-- one more change
effects_of-more : (past : List Change) (written : List ℕ) (change : Change) (piece : List ℕ) → bytes_of_change change ≡ length piece
    → sum_by bytes_of_change past ≡ length written → effects_of (past ++ change ∷ []) (written ++ piece) ≡ effects_of past written ++ effect_of change piece ∷ []
effects_of-more [] [] change piece size total = first_effect change piece size
effects_of-more [] (b ∷ written) change piece size total = absurd (omega arith)
effects_of-more (Write at len ∷ past) written change piece size total =
    let all : sum_by bytes_of_change (Write at len ∷ past) ≡ len + sum_by bytes_of_change past = sum_by-cons bytes_of_change (Write at len) past in
    let fits : len ≤ length written = omega arith in
    let rest : effects_of (past ++ change ∷ []) (drop len written ++ piece) ≡ effects_of past (drop len written) ++ effect_of change piece ∷ [] =
    effects_of-more past (drop len written) change piece size (omega (arith, length-drop len written)) in
    ap (λ xs. Wrote at xs ∷ effects_of (past ++ change ∷ []) (drop len (written ++ piece))) (take-append-le len written piece fits)
    ∙ ap (λ xs. Wrote at (take len written) ∷ effects_of (past ++ change ∷ []) xs) (drop-append-le len written piece fits)
    ∙ ap (λ xs. Wrote at (take len written) ∷ xs) rest
effects_of-more (Cut len ∷ past) written change piece size total =
    let all : sum_by bytes_of_change (Cut len ∷ past) ≡ 0 + sum_by bytes_of_change past = sum_by-cons bytes_of_change (Cut len) past in
    ap (λ xs. Shortened len ∷ xs) (effects_of-more past written change piece size (omega arith))
effects_of-more (Sync ∷ past) written change piece size total =
    let all : sum_by bytes_of_change (Sync ∷ past) ≡ 0 + sum_by bytes_of_change past = sum_by-cons bytes_of_change Sync past in
    ap (λ xs. Synced ∷ xs) (effects_of-more past written change piece size (omega arith))

newest_from : (m : Moment) (past : List Moment) (effects : List Effect) → IfKnown (fold (λ moments effect. added (after effect) moments) (m ∷ past) effects) (λ k. k ≡ fold (λ m effect. after effect m) m effects)
newest_from m past [] = refl
newest_from m past (effect ∷ effects) = newest_from (after effect m) (m ∷ past) effects

at_newest : (moments : List Moment) (m : Moment) (P : Moment → Type 0) → IfKnown moments (λ k. k ≡ m) → P m → IfKnown moments P
at_newest [] m P e now = tt
at_newest (k ∷ past) m P e now = subst P (sym e) now

-- what holds of the disk now holds of the moment that it shows first, behind a call that changed nothing too
pub known_now : (d : DiskState) (moments : List Moment) (P : Moment → Type 0) → moments ≡ moments_of d → P (now_of d) → IfKnown moments P
known_now d moments P same now =
    subst (λ (ms : List Moment). IfKnown ms P) (sym same) (at_newest (moments_of d) (now_of d) P (newest_from (synced d.start) [] d.effects) now)

-- one more effect, one more moment
pub moments_of-more : (d : DiskState) (effect : Effect) → moments_of (record d { effects = d.effects ++ effect ∷ [] }) ≡ added (after effect) (moments_of d)
moments_of-more d effect = fold-append (λ moments effect. added (after effect) moments) (synced d.start ∷ []) d.effects (effect ∷ [])

-- a change was done and noted
pub record IsNoted (change : Change) (piece : List ℕ) (d new : Inside) : Type 0 where
  pub start : new.start ≡ d.start
  pub bytes : (after (effect_of change piece) (now_of (disk_state d))).reads ≡ new.bytes.items
  pub past : new.past.items ≡ d.past.items ++ change ∷ []
  pub written : new.written.items ≡ d.written.items ++ piece
  pub size : bytes_of_change change ≡ length piece
  pub counted : new.counter.made ≡ risen d.counter.made
  pub left : d.counter.made < d.most
  pub room : new.room ≡ d.room
  pub most : new.most ≡ d.most
  pub bytes_room : vec_capacity d.bytes ≤ vec_capacity new.bytes
  pub written_room : vec_capacity d.written ≤ vec_capacity new.written
  pub past_room : vec_capacity d.past ≤ vec_capacity new.past

pub noted_effects : {change : Change} {piece : List ℕ} {d new : Inside} → IsReplayed d → IsNoted change piece d new
    → effects_of new.past.items new.written.items ≡ effects_of d.past.items d.written.items ++ effect_of change piece ∷ []
noted_effects {change} {piece} {d} {new} replayed n =
    ap (λ past. effects_of past new.written.items) n.past
    ∙ ap (λ written. effects_of (d.past.items ++ change ∷ []) written) n.written
    ∙ effects_of-more d.past.items d.written.items change piece n.size replayed.written

noted_bytes : {change : Change} {piece : List ℕ} {d new : Inside} → IsReplayed d → IsNoted change piece d new → contents (disk_state new) ≡ new.bytes.items
noted_bytes {change} {piece} {d} {new} replayed n =
    let start : synced new.start.items ≡ synced d.start.items = ap (λ (v : Vec ℕ Global). synced v.items) n.start in
    ap (λ m. (fold (λ m effect. after effect m) m (effects_of new.past.items new.written.items)).reads) start
    ∙ ap (λ es. (fold (λ m effect. after effect m) (synced d.start.items) es).reads) (noted_effects replayed n)
    ∙ ap (λ (m : Moment). m.reads)
    (fold-append (λ m effect. after effect m) (synced d.start.items) (effects_of d.past.items d.written.items) (effect_of change piece ∷ []))
    ∙ n.bytes

pub noted : {change : Change} {piece : List ℕ} {d new : Inside} → IsReplayed d → IsNoted change piece d new → IsReplayed new
noted {change} {piece} {d} {new} replayed n =
    let total : sum_by bytes_of_change new.past.items ≡ sum_by bytes_of_change d.past.items + bytes_of_change change =
    ap (λ past. sum_by bytes_of_change past) n.past ∙ sum_by_push bytes_of_change d.past.items change in
    let written : length new.written.items ≡ length d.written.items + length piece =
    ap (λ xs. length xs) n.written ∙ length-append d.written.items piece in
    let past : length new.past.items ≡ length d.past.items + 1 =
    ap (λ (xs : List Change). length xs) n.past ∙ length-append d.past.items (change ∷ []) in
    record {
      bytes = noted_bytes replayed n;
      written = omega (arith, replayed.written, n.size);
      past = omega (arith, replayed.past, n.counted, n.left, replayed.most);
      most = omega (arith, replayed.most, n.most);
      room = omega (arith, replayed.room, n.room);
      bytes_room = omega (arith, replayed.bytes_room, n.bytes_room, n.room);
      written_room = omega (arith, replayed.written_room, n.written_room, n.room);
      past_room = omega (arith, replayed.past_room, n.past_room, n.most);
    }
