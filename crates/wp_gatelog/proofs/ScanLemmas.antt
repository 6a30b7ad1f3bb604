-- The records of a log, read one after another.
use Rattle.std.specs.Prelude.{⊤}
use Rattle.std.proofs.Common.{◌≡◌, ◌≢◌, ◌⊎◌, inl, inr, ℕ, ◌+◌, ◌<◌, ◌≤◌, ◌^◌, List, [], ◌∷◌, ◌++◌, length, take, drop, Option, None, Some, refl, sym, ◌∙◌, ap, subst, arith, length-append, length-take, length-drop}
use Rattle.std.proofs.lemmas.List.{append-nil, append_assoc, take-append-drop, take_at, drop_at, length-take-le, length-map, map_push}
use Rattle.std.proofs.lemmas.Nat.{from_be_bytes-to_be_bytes_8}
use Rattle.std.specs.Int.{w64, to_be_bytes, from_be_bytes}
use Rattle.wp_outside.specs.Disk.{Moment, IfKnown, IsRead, Goes}
use Rattle.wp_gatelog.specs.declared.error.LogError.{LogError}
use Rattle.wp_gatelog.specs.declared.error.LogError.TheVariants.{Memory, DiskFault, BadHead, Cut}
use Rattle.wp_gatelog.specs.declared.gate.GateByte.{GateByte}
use Rattle.wp_gatelog.specs.declared.scan.Next.{Next}
use Rattle.wp_gatelog.specs.declared.scan.Next.TheVariants as next
use Rattle.wp_gatelog.specs.Damage.{IsShort, stated_length}
use Rattle.wp_gatelog.specs.Patched.{Shows, EndsAt, IsPatched, ReadsTo}
use Rattle.wp_gatelog.specs.Scanning.{IsUnfinished, IsNext, IsWholeAt, HasRead, IsReadFault, RefusedBy}
use Rattle.wp_gatelog.specs.Spelling.{Gated, IsOpen, framed, all_gated}
use Rattle.wp_gatelog.proofs.AppendLemmas.{length-framed, records_more, all_gated_more}
use Rattle.wp_gatelog.proofs.MomentLemmas.{known_map}
use Rattle.wp_gatelog.proofs.PatchLemmas.{shows_front, shows_rest, shows_split, shows_all, patched_piece, patched_later, patched_alone}

-- ---- one gate

stated_length_is : (len : ℕ) (bytes : List ℕ) → len < 2 ^ 64 → stated_length (to_be_bytes w64 len ++ bytes) ≡ len
unfolding stated_length
stated_length_is len bytes fits = ap (λ (l : List ℕ). from_be_bytes w64 l) (take_at (to_be_bytes w64 len) bytes 8 refl) ∙ from_be_bytes-to_be_bytes_8 len fits

pub stated_length_framed : (bytes rest : List ℕ) → length bytes < 2 ^ 64 → stated_length (framed bytes ++ rest) ≡ length bytes
unfolding framed
stated_length_framed bytes rest fits =
    ap stated_length (append_assoc (to_be_bytes w64 (length bytes)) bytes rest) ∙ stated_length_is (length bytes) (bytes ++ rest) fits

pub next_none : (bytes : List ℕ) → length bytes < 1 → IsUnfinished bytes
next_none [] none = tt
next_none (b ∷ bytes) none = absurd (omega arith)

-- what follows an open gate
module _ (bytes rest : List ℕ) (gate : ℕ) (opened : gate ≢ 0) (is : bytes ≡ gate ∷ rest) where
  unfinished : IsShort rest → IsUnfinished bytes
  unfinished short = subst IsUnfinished (sym is) (opened, short)

  pub next_lacks : length rest < 8 → IsUnfinished bytes
  next_lacks lacks = unfinished (omega (arith, lacks))

  pub next_short : (len : ℕ) (left : List ℕ) → rest ≡ to_be_bytes w64 len ++ left → len < 2 ^ 64 → length left ≤ len → IsUnfinished bytes
  next_short len left spelled fits short =
      unfinished (omega (arith, ap length spelled, ap stated_length spelled, stated_length_is len left fits, length-append (to_be_bytes w64 len) left, short))

  pub next_whole : (len : ℕ) (left : List ℕ) → rest ≡ to_be_bytes w64 len ++ left → len < 2 ^ 64 → len < length left → IsNext bytes (next.Open gate len)
  unfolding framed
  next_whole len left spelled fits room =
      let found : List ℕ = take len left in
      let after : List ℕ = drop len left in
      let size : len ≡ length found = sym (length-take-le len left (omega (arith, room))) in (
        found,
        after,
        size,
        record { gate = opened; length_fits = omega (arith, size, fits) },
        omega (arith, length-drop len left, room),
        is ∙ ap (λ (l : List ℕ). gate ∷ l) (spelled ∙ ap (λ (l : List ℕ). to_be_bytes w64 len ++ l) (sym (take-append-drop len left))
            ∙ ap (λ (k : ℕ). to_be_bytes w64 k ++ (found ++ after)) size ∙ sym (append_assoc (to_be_bytes w64 (length found)) found after)),
      )

-- a closed gate, or a whole record and a further gate, leaves nothing unfinished
closed_finished : (bytes : List ℕ) → IsNext bytes next.Closed → IsUnfinished bytes → ⊥
closed_finished bytes found unfinished = (subst IsUnfinished found.1 unfinished).0 refl

open_finished : (bytes : List ℕ) (gate len : ℕ) → IsNext bytes (next.Open gate len) → IsUnfinished bytes → ⊥
open_finished bytes gate len found unfinished =
    let short : IsShort (framed found.0 ++ found.1) = (subst IsUnfinished found.5 unfinished).1 in
    omega (arith, short, stated_length_framed found.0 found.1 found.3.length_fits, length-append (framed found.0) found.1, length-framed found.0, found.4)

pub finished : (bytes : List ℕ) (what : Next) → ((whole : ℕ) → what ≡ next.Short whole → ⊥) → IsNext bytes what → IsUnfinished bytes → ⊥
finished bytes next.Closed other found unfinished = closed_finished bytes found unfinished
finished bytes (next.Short whole) other found unfinished = other whole refl
finished bytes (next.Open gate len) other found unfinished = open_finished bytes gate len found unfinished

-- what is left of a buffer that a read filled from the front is what it read
pub left_read : (buf rest bytes : List ℕ) (n len : ℕ) → length buf ≡ len → bytes ≡ take n (take len (buf ++ rest)) → bytes ≡ take n buf
left_read buf rest bytes n len full is = is ∙ ap (λ (l : List ℕ). take n l) (take_at buf rest len full)

-- what a read gave stands there, and where it gave fewer bytes than it was asked for, the device ended
pub whole_read : (m : Moment) (buf bytes : List ℕ) (at n size : ℕ) → length buf ≡ size → bytes ≡ take n buf → (IsUnfinished bytes → n < size) → IsRead m.reads at buf n → IsWholeAt at bytes m
whole_read m buf bytes at n size room is short read =
    let len : length bytes ≡ n = ap length is ∙ length-take-le n buf (omega (arith, read.count)) in (
      ap (λ (k : ℕ). take k (drop at m.reads)) len ∙ sym read.bytes ∙ sym is,
      λ unfinished. omega (arith, read.count, short unfinished, len, room),
    )

-- the record is what stands behind the gate and the length
record_found : (bytes found rest : List ℕ) (gate len : ℕ) → bytes ≡ gate ∷ (framed found ++ rest) → len ≡ length found → take len (drop 9 bytes) ≡ found
unfolding framed
record_found bytes found rest gate len is size =
    ap (λ (l : List ℕ). take len (drop 9 l)) is
    ∙ ap (λ (l : List ℕ). take len (drop 8 l)) (append_assoc (to_be_bytes w64 (length found)) found rest)
    ∙ ap (λ (l : List ℕ). take len l) (drop_at (to_be_bytes w64 (length found)) (found ++ rest) 8 refl)
    ∙ take_at found rest len (sym size)

-- a whole record and a further gate are more than the gate and the length before them
pub next_long : (bytes : List ℕ) (gate len : ℕ) → IsNext bytes (next.Open gate len) → 9 + len ≤ length bytes
next_long bytes gate len next = omega (arith, ap length next.5, length-append (framed next.0) next.1, length-framed next.0, next.2)

-- ---- record after record

module _ (start : ℕ) (text : List ℕ) (records : List (List ℕ)) (last : Option GateByte) (end : ℕ) (read : HasRead start text [] records last end) where
  whole_text : text ≡ all_gated read.gated
  whole_text = read.spelling ∙ append-nil (all_gated read.gated)

  read_place : end ≡ start + length text
  read_place = omega (arith, read.place, ap length whole_text)

  read_more : (gate : ℕ) (found : List ℕ) → IsOpen (record { gate = gate; bytes = found })
      → HasRead start (text ++ gate ∷ framed found) [] (records ++ found ∷ []) (Some (record { at = end; byte = gate })) (end + (9 + length found))
  read_more gate found opened =
      let size : length (gate ∷ framed found) ≡ 9 + length found = omega (arith, length-framed found) in
      let more = all_gated_more read.gated gate found in
      record {
        gated = read.gated ++ record { gate = gate; bytes = found } ∷ [];
        spelling = ap (λ (l : List ℕ). l ++ gate ∷ framed found) whole_text ∙ sym more ∙ sym (append-nil (all_gated (read.gated ++ record { gate = gate; bytes = found } ∷ [])));
        gates_open = records_more read.gated gate found read.gates_open opened;
        same = ap (λ (l : List (List ℕ)). l ++ found ∷ []) read.same ∙ sym (map_push (λ (g : Gated). g.bytes) read.gated (record { gate = gate; bytes = found }));
        place = omega (arith, read.place, ap length more, length-append (all_gated read.gated) (gate ∷ framed found), size);
        last_is = (read.gated, found, refl, read.place);
      }

  read_ended : (rest : List ℕ) → HasRead start (text ++ rest) rest records last end
  read_ended rest = record {
    gated = read.gated;
    spelling = ap (λ (l : List ℕ). l ++ rest) whole_text;
    gates_open = read.gates_open;
    same = read.same;
    place = read.place;
    last_is = read.last_is;
  }

  read_cut : (id gate : ℕ) (following : List ℕ) → gate ≢ 0 → IsShort following → IsReadFault id (text ++ gate ∷ following) (Cut (length records) id)
  read_cut id gate following opened short = (
    refl,
    read.gated,
    gate,
    following,
    read.gates_open,
    sym (ap length read.same ∙ length-map read.gated (λ (g : Gated). g.bytes)),
    opened,
    short,
    ap (λ (l : List ℕ). l ++ gate ∷ following) whole_text,
  )

-- ---- of a device

-- These records were read from start on of a device that went from old to now, and the piece stands behind them, from their
-- end on.
pub record HasScanned (start : ℕ) (old now : List Moment) (piece : List ℕ) (records : List (List ℕ)) (last : Option GateByte) (end : ℕ) : Type 0 where
  pub read : ReadsTo start old now (λ text. HasRead start text [] records last end)
  pub shown : IfKnown now (Shows end piece)
  pub some : 0 < length piece

pub scan_begins : (start : ℕ) (ms : List Moment) (first : ℕ) → IfKnown ms (λ m. Shows start (first ∷ []) m → HasScanned start ms ms (first ∷ []) [] None start)
scan_begins start [] first = tt
scan_begins start (m ∷ past) first = λ shown. record {
  read = record {
    text = [];
    is = record { gated = []; spelling = refl; gates_open = tt; same = refl; place = omega arith; last_is = refl };
    patched = record { more = []; came = refl; patch = refl };
  };
  shown = shown;
  some = omega arith;
}

-- then the device was looked at, or not, and this piece stands there
module _ (start : ℕ) (old mid new : List Moment) (piece now : List ℕ) (records : List (List ℕ)) (last : Option GateByte) (end : ℕ) (goes : Goes (λ m. ⊤) mid new)
    (shown : IfKnown mid (Shows end piece) → IfKnown new (IsWholeAt end now)) (scanned : HasScanned start old mid piece records last end) where
  abbrev text : List ℕ
  text = scanned.read.text

  place : end ≡ start + length text
  place = read_place start text records last end scanned.read.is

  there : IfKnown new (IsWholeAt end now)
  there = shown scanned.shown

  -- a front of the piece goes behind the text
  reads_front : (front rest : List ℕ) → now ≡ front ++ rest → IsPatched start old new (text ++ front)
  reads_front front rest is =
      patched_piece start old new text front (patched_later start old mid new text goes scanned.read.patched)
      (known_map (IsWholeAt end now) (Shows (start + length text) front) (λ m whole. subst (λ (n : ℕ). Shows n front m) place (shows_front end front rest m (subst (λ (l : List ℕ). Shows end l m) is whole.0))) new there)

  pub scan_more : (gate len reach : ℕ) (record_is : List ℕ) → 1 ≤ reach → record_is ≡ take len (drop 9 now) → IsNext now (next.Open gate len)
      → HasScanned start old new (take reach (drop (9 + len) now)) (records ++ record_is ∷ []) (Some (record { at = end; byte = gate })) (end + (9 + len))
  scan_more gate len reach record_is least is next =
      let found : List ℕ = next.0 in
      let rest : List ℕ = next.1 in
      let front : List ℕ = gate ∷ framed found in
      let size : length front ≡ 9 + len = omega (arith, length-framed found, next.2) in
      let same : record_is ≡ found = is ∙ record_found now found rest gate len next.5 next.2 in
      let behind : drop (9 + len) now ≡ rest = ap (λ (l : List ℕ). drop (9 + len) l) next.5 ∙ drop_at front rest (9 + len) size in
      let kept : List ℕ = take reach rest in
      let split : now ≡ front ++ (kept ++ drop reach rest) = next.5 ∙ ap (λ (l : List ℕ). front ++ l) (sym (take-append-drop reach rest)) in
      let made : HasScanned start old new kept (records ++ found ∷ []) (Some (record { at = end; byte = gate })) (end + (9 + length found)) = record {
        read = record {
          text = text ++ front;
          is = read_more start text records last end scanned.read.is gate found next.3;
          patched = reads_front front rest next.5;
        };
        shown = known_map (IsWholeAt end now) (Shows (end + (9 + length found)) kept) (λ m whole.
            subst (λ (n : ℕ). Shows (end + n) kept m) (omega (arith, size, next.2))
            (shows_front (end + length front) kept (drop reach rest) m (shows_rest end front (kept ++ drop reach rest) m (subst (λ (l : List ℕ). Shows end l m) split whole.0)))) new there;
        some = omega (arith, length-take reach rest, least, next.4);
      } in
      subst (λ (l : List ℕ). HasScanned start old new (take reach l) (records ++ record_is ∷ []) (Some (record { at = end; byte = gate })) (end + (9 + len))) (sym behind)
      (subst (λ (r : List ℕ). HasScanned start old new kept (records ++ r ∷ []) (Some (record { at = end; byte = gate })) (end + (9 + len))) (sym same)
      (subst (λ (n : ℕ). HasScanned start old new kept (records ++ found ∷ []) (Some (record { at = end; byte = gate })) (end + (9 + n))) (sym next.2) made))

  pub scan_ends : IsNext now next.Closed → ReadsTo start old new (λ all. HasRead start all (0 ∷ []) records last end)
  scan_ends next = record {
    text = text ++ 0 ∷ [];
    is = read_ended start text records last end scanned.read.is (0 ∷ []);
    patched = reads_front (0 ∷ []) next.0 next.1;
  }

  ended : (all : List ℕ) → length text + length now ≤ length all → IsUnfinished now → IfKnown new (EndsAt start all)
  ended all size unfinished = known_map (IsWholeAt end now) (EndsAt start all) (λ m whole. omega (arith, whole.1 unfinished, place, size)) new there

  -- The piece has no whole record. Where it has not even a gate, the one that was seen before goes behind the text.
  pub scan_cut : (id : ℕ) → ((now ≡ piece) × (new ≡ mid)) ⊎ IsUnfinished piece → IsUnfinished now → RefusedBy start id old new (Cut (length records) id)
  scan_cut id kept unfinished = by now piece refl refl
    where
      seen : (g : ℕ) (f : List ℕ) → piece ≡ g ∷ f → g ≢ 0 → now ≡ [] → RefusedBy start id old new (Cut (length records) id)
      seen g f was opened none = record {
        text = text ++ g ∷ [];
        is = (
          read_cut start text records last end scanned.read.is id g [] opened (omega arith),
          ended (text ++ g ∷ []) (omega (arith, ap length none, length-append text (g ∷ []))) unfinished,
        );
        patched = patched_later start old mid new (text ++ g ∷ []) goes (patched_piece start old mid text (g ∷ []) scanned.read.patched
            (known_map (Shows end piece) (Shows (start + length text) (g ∷ [])) (λ m there. subst (λ (n : ℕ). Shows n (g ∷ []) m) place (shows_front end (g ∷ []) f m (subst (λ (l : List ℕ). Shows end l m) was there))) mid scanned.shown));
      }

      by : (n p : List ℕ) → now ≡ n → piece ≡ p → RefusedBy start id old new (Cut (length records) id)
      by (g ∷ f) p is was =
          let cut = subst IsUnfinished is unfinished in
          record {
            text = text ++ g ∷ f;
            is = (
              read_cut start text records last end scanned.read.is id g f cut.0 cut.1,
              ended (text ++ g ∷ f) (omega (arith, ap length is, length-append text (g ∷ f))) unfinished,
            );
            patched = reads_front (g ∷ f) [] (is ∙ sym (append-nil (g ∷ f)));
          }
      by [] [] is was = absurd (omega (arith, scanned.some, ap length was))
      by [] (g ∷ f) is was = elim kept [
        | inl same ↦ absurd (omega (arith, ap length (sym is ∙ same.0 ∙ was)))
        | inr cut ↦ seen g f was (subst IsUnfinished was cut).0 is
      ]

-- ---- of a device that is alone

pub alone_found : (start : ℕ) (old new : List Moment) (first : ℕ) (records : List (List ℕ)) (last : Option GateByte) (end : ℕ) → new ≡ old
    → IfKnown old (λ m. Shows start (first ∷ []) m → ReadsTo start old new (λ text. HasRead start text (0 ∷ []) records last end))
    → IfKnown old (λ m. Shows start (first ∷ []) m → (following : List ℕ) × HasRead start (drop start m.reads) (0 ∷ following) records last end)
alone_found start [] new first records last end same reads = tt
alone_found start (m ∷ past) new first records last end same reads = λ shown.
    let to = reads shown in
    let more : List ℕ = drop (length to.text) (drop start m.reads) in
    let split : drop start m.reads ≡ to.text ++ more = shows_split start to.text m (patched_alone start m past new to.text same to.patched) in (
      more,
      record {
        gated = to.is.gated;
        spelling = split ∙ ap (λ (l : List ℕ). l ++ more) to.is.spelling ∙ append_assoc (all_gated to.is.gated) (0 ∷ []) more;
        gates_open = to.is.gates_open;
        same = to.is.same;
        place = to.is.place;
        last_is = to.is.last_is;
      },
    )

pub alone_refused : (start : ℕ) (old new : List Moment) (id first : ℕ) (why : LogError) → new ≡ old
    → IfKnown old (λ m. Shows start (first ∷ []) m → RefusedBy start id old new why) → IfKnown old (λ m. Shows start (first ∷ []) m → IsReadFault id (drop start m.reads) why)
alone_refused start [] new id first why same refused = tt
alone_refused start (m ∷ past) new id first Memory same refused = λ shown. tt
alone_refused start (m ∷ past) new id first DiskFault same refused = λ shown. tt
alone_refused start (m ∷ past) new id first BadHead same refused = refused
alone_refused start (m ∷ past) new id first (Cut index named) same refused = λ shown.
    let to = refused shown in
    let ends : EndsAt start to.text m = subst (λ (ms : List Moment). IfKnown ms (EndsAt start to.text)) same to.is.1 in
    subst (λ (l : List ℕ). IsReadFault id l (Cut index named)) (sym (shows_all start to.text m (patched_alone start m past new to.text same to.patched) ends)) to.is.0
