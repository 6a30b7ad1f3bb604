-- Edits, and what records are as edits.
use Rattle.std.proofs.Common.{◌≡◌, ℕ, ◌+◌, ◌*◌, ◌<◌, ◌^◌, List, [], ◌∷◌, ◌++◌, length, take, get_or, drop, Option, Some, None, refl, sym, ap, ◌∙◌, arith, append_assoc, length-append}
use Rattle.std.proofs.lemmas.List.{append-nil, map-append, take_more}
use Rattle.std.proofs.lemmas.Grind.{flat_map-append}
use Rattle.std.proofs.lemmas.Nat.{from_be_bytes-to_be_bytes_4, from_be_bytes-to_be_bytes_8}
use Rattle.std.specs.Int.{w32, w64, to_be_bytes, from_be_bytes}
use Rattle.wp_outside.specs.Disk.{Each}
use Rattle.wp_manifest.specs.declared.edit.TheConstants.{MARK}
use Rattle.wp_manifest.specs.declared.read.Front.{Front}
use Rattle.wp_manifest.specs.Edit.{Edit, IsEdit, IsFront, ArePlaces, IsSpelling, front_bytes, place_bytes, places_bytes, edit_bytes}
use Rattle.wp_manifest.specs.Reading.{FrontRead}
use Rattle.wp_manifest.specs.Spelling.{AreEdits, last_edit}

-- ---- tables

pub places-push : (tables : List (ℕ × ℕ)) (table : ℕ × ℕ) → places_bytes (tables ++ table ∷ []) ≡ places_bytes tables ++ place_bytes table
places-push tables table = flat_map-append place_bytes tables (table ∷ []) ∙ ap (λ (xs : List ℕ). places_bytes tables ++ xs) (append-nil (place_bytes table))

-- one table more was read
pub places-read : (all rest new : List ℕ) (tables : List (ℕ × ℕ)) (table : ℕ × ℕ) → all ≡ places_bytes tables ++ rest → rest ≡ place_bytes table ++ new → all ≡ places_bytes (tables ++ table ∷ []) ++ new
places-read all rest new tables table so_far here =
    so_far ∙ ap (λ (xs : List ℕ). places_bytes tables ++ xs) here ∙ sym (append_assoc (places_bytes tables) (place_bytes table) new) ∙ ap (λ (xs : List ℕ). xs ++ new) (sym (places-push tables table))

-- one table more was written
pub place_pushed : (start a b : List ℕ) (table : ℕ × ℕ) → a ≡ start ++ to_be_bytes w64 table.0 → b ≡ a ++ to_be_bytes w64 table.1 → b ≡ start ++ place_bytes table
place_pushed start a b table first last = last ∙ ap (λ (xs : List ℕ). xs ++ to_be_bytes w64 table.1) first ∙ append_assoc start (to_be_bytes w64 table.0) (to_be_bytes w64 table.1)

pub places-written : (front bytes new : List ℕ) (tables : List (ℕ × ℕ)) (i : ℕ) (d : ℕ × ℕ) → i < length tables → bytes ≡ front ++ places_bytes (take i tables) → new ≡ bytes ++ place_bytes (get_or tables i d) → new ≡ front ++ places_bytes (take (i + 1) tables)
places-written front bytes new tables i d lt so_far here =
    let table = get_or tables i d in
    here ∙ ap (λ (xs : List ℕ). xs ++ place_bytes table) so_far ∙ append_assoc front (places_bytes (take i tables)) (place_bytes table)
    ∙ ap (λ (xs : List ℕ). front ++ xs) (sym (places-push (take i tables) table) ∙ ap places_bytes (sym (take_more tables i d lt)))

pub ArePlaces-push : (tables : List (ℕ × ℕ)) (table : ℕ × ℕ) → ArePlaces tables → (table.0 < 2 ^ 64) → (table.1 < 2 ^ 64) → ArePlaces (tables ++ table ∷ [])
ArePlaces-push [] table are place len = (place, len, tt)
ArePlaces-push (first ∷ tables) table are place len = (are.0, are.1, ArePlaces-push tables table are.2 place len)

pub ArePlaces-more : (tables : List (ℕ × ℕ)) (i : ℕ) (d : ℕ × ℕ) → i < length tables → ArePlaces (take i tables) → ((get_or tables i d).0 < 2 ^ 64) × ((get_or tables i d).1 < 2 ^ 64) → ArePlaces (take (i + 1) tables)
ArePlaces-more tables i d lt are table = rw (take_more tables i d lt) (ArePlaces-push (take i tables) (get_or tables i d) are table.0 table.1)

pub length-places : (tables : List (ℕ × ℕ)) → length (places_bytes tables) ≡ length tables * 16
length-places [] = refl
length-places (table ∷ tables) = omega (arith, length-append (place_bytes table) (places_bytes tables), length-places tables)

-- ---- records

pub last-push : (edits : List Edit) (edit : Edit) → last_edit (edits ++ edit ∷ []) ≡ edit
last-push [] edit = refl
last-push (first ∷ []) edit = refl
last-push (first ∷ second ∷ others) edit = last-push (second ∷ others) edit

Each-push : (edits : List Edit) (edit : Edit) → Each IsEdit edits → IsEdit edit → Each IsEdit (edits ++ edit ∷ [])
Each-push [] edit each is = (is, tt)
Each-push (first ∷ edits) edit each is = (each.0, Each-push edits edit each.1 is)

-- an edit after those of a manifest
pub AreEdits-push : (records : List (List ℕ)) (edits : List Edit) (edit : Edit) → AreEdits records edits → IsEdit edit → AreEdits (records ++ edit_bytes edit ∷ []) (edits ++ edit ∷ [])
AreEdits-push records edits edit are is = record {
  spelled = ap (λ (rs : List (List ℕ)). rs ++ edit_bytes edit ∷ []) are.spelled ∙ sym (map-append edit_bytes edits (edit ∷ []));
  are = Each-push edits edit are.are is;
}

-- one record more was read
pub AreEdits-more : (records : List (List ℕ)) (i : ℕ) (here : List ℕ) (edits : List Edit) (edit : Edit) → i < length records → here ≡ get_or records i here → AreEdits (take i records) edits → IsSpelling here edit → AreEdits (take (i + 1) records) (edits ++ edit ∷ [])
AreEdits-more records i here edits edit lt is so_far spelled =
    let piece : take (i + 1) records ≡ take i records ++ edit_bytes edit ∷ [] = take_more records i here lt ∙ ap (λ (x : List ℕ). take i records ++ x ∷ []) (sym is ∙ spelled.spelling) in
    rw piece (AreEdits-push (take i records) edits edit so_far spelled.is)

-- ---- one spelling

-- what a number's bytes are at the front of is read as the number
front_4 : (n m : ℕ) (rest more : List ℕ) → n < 2 ^ 32 → m < 2 ^ 32 → to_be_bytes w32 n ++ rest ≡ to_be_bytes w32 m ++ more → (n ≡ m) × (rest ≡ more)
front_4 n m rest more small less is = (
  sym (from_be_bytes-to_be_bytes_4 n small) ∙ ap (λ (bytes : List ℕ). from_be_bytes w32 (take 4 bytes)) is ∙ from_be_bytes-to_be_bytes_4 m less,
  ap (λ (bytes : List ℕ). drop 4 bytes) is,
)

front_8 : (n m : ℕ) (rest more : List ℕ) → n < 2 ^ 64 → m < 2 ^ 64 → to_be_bytes w64 n ++ rest ≡ to_be_bytes w64 m ++ more → (n ≡ m) × (rest ≡ more)
front_8 n m rest more small less is = (
  sym (from_be_bytes-to_be_bytes_8 n small) ∙ ap (λ (bytes : List ℕ). from_be_bytes w64 (take 8 bytes)) is ∙ from_be_bytes-to_be_bytes_8 m less,
  ap (λ (bytes : List ℕ). drop 8 bytes) is,
)

one_places : (one other : List (ℕ × ℕ)) → ArePlaces one → ArePlaces other → places_bytes one ≡ places_bytes other → one ≡ other
one_places [] [] are too is = refl
one_places [] (table ∷ tables) are too is = absurd cc
one_places (table ∷ tables) [] are too is = absurd cc
one_places (table ∷ tables) (second ∷ others) are too is =
    let place = front_8 table.0 second.0 (to_be_bytes w64 table.1 ++ places_bytes tables) (to_be_bytes w64 second.1 ++ places_bytes others) are.0 too.0 is in
    let len = front_8 table.1 second.1 (places_bytes tables) (places_bytes others) are.1 too.1 place.1 in
    let rest = one_places tables others are.2 too.2 len.1 in
    rw (place.0, len.0, rest) refl

abbrev edit_with : ℕ → Option ℕ → List (ℕ × ℕ) → Edit
edit_with flushed place tables = record { flushed = flushed; place = place; tables = tables }

same_edit : (f g : ℕ) (p q : Option ℕ) (t u : List (ℕ × ℕ)) → f ≡ g → p ≡ q → t ≡ u → edit_with f p t ≡ edit_with g q u
same_edit f g p q t u flushed place tables = rw (flushed, place, tables) refl

-- numbers at the front that are the same, with what is behind them
abbrev Same : Option ℕ → Option ℕ → ℕ → ℕ → ℕ → ℕ → List ℕ → List ℕ → Type 0
Same p q f g c d rest more = (p ≡ q) × (f ≡ g) × (c ≡ d) × (rest ≡ more)

same_front : (p q : Option ℕ) (f g c d : ℕ) (rest more : List ℕ) → IsFront p f c → IsFront q g d → front_bytes p f c ++ rest ≡ front_bytes q g d ++ more → Same p q f g c d rest more
same_front None None f g c d rest more fits less is =
    let flushed = front_4 f g (to_be_bytes w32 c ++ rest) (to_be_bytes w32 d ++ more) fits.0 less.0 is in
    let count = front_4 c d rest more fits.1 less.1 flushed.1 in
    (refl, flushed.0, count.0, count.1)
same_front None (Some q) f g c d rest more fits less is =
    let behind = to_be_bytes w64 g ++ (to_be_bytes w64 q ++ (to_be_bytes w64 d ++ more)) in
    let flushed = front_4 f 0 (to_be_bytes w32 c ++ rest) (to_be_bytes w32 MARK ++ behind) fits.0 (omega arith) is in
    let count = front_4 c MARK rest behind fits.1 (omega arith) flushed.1 in
    absurd (fits.2 flushed.0 count.0)
same_front (Some p) None f g c d rest more fits less is =
    let behind = to_be_bytes w64 f ++ (to_be_bytes w64 p ++ (to_be_bytes w64 c ++ rest)) in
    let flushed = front_4 g 0 (to_be_bytes w32 d ++ more) (to_be_bytes w32 MARK ++ behind) less.0 (omega arith) (sym is) in
    let count = front_4 d MARK more behind less.1 (omega arith) flushed.1 in
    absurd (less.2 flushed.0 count.0)
same_front (Some p) (Some q) f g c d rest more fits less is =
    let numbers : to_be_bytes w64 f ++ (to_be_bytes w64 p ++ (to_be_bytes w64 c ++ rest)) ≡ to_be_bytes w64 g ++ (to_be_bytes w64 q ++ (to_be_bytes w64 d ++ more)) = ap (λ (bytes : List ℕ). drop 8 bytes) is in
    let flushed = front_8 f g (to_be_bytes w64 p ++ (to_be_bytes w64 c ++ rest)) (to_be_bytes w64 q ++ (to_be_bytes w64 d ++ more)) fits.0 less.0 numbers in
    let place = front_8 p q (to_be_bytes w64 c ++ rest) (to_be_bytes w64 d ++ more) fits.1 less.1 flushed.1 in
    let count = front_8 c d rest more fits.2 less.2 place.1 in
    (ap (λ (n : ℕ). Some n) place.0, flushed.0, count.0, count.1)

pub one_edit : (one other : Edit) → IsEdit one → IsEdit other → edit_bytes one ≡ edit_bytes other → one ≡ other
one_edit one other is too same =
    let front = same_front one.place other.place one.flushed other.flushed (length one.tables) (length other.tables) (places_bytes one.tables) (places_bytes other.tables) is.front too.front same in
    same_edit one.flushed other.flushed one.place other.place one.tables other.tables front.1 front.0 (one_places one.tables other.tables is.places too.places front.3)

-- ---- what is written

-- five pieces, one behind the other
five : (start first second third fourth fifth a b c d e : List ℕ) → a ≡ start ++ first → b ≡ a ++ second → c ≡ b ++ third → d ≡ c ++ fourth → e ≡ d ++ fifth → e ≡ start ++ (first ++ (second ++ (third ++ (fourth ++ fifth))))
five start first second third fourth fifth a b c d e one two three four last =
    last ∙ ap (λ (l : List ℕ). l ++ fifth) four ∙ append_assoc c fourth fifth
    ∙ ap (λ (l : List ℕ). l ++ (fourth ++ fifth)) three ∙ append_assoc b third (fourth ++ fifth)
    ∙ ap (λ (l : List ℕ). l ++ (third ++ (fourth ++ fifth))) two ∙ append_assoc a second (third ++ (fourth ++ fifth))
    ∙ ap (λ (l : List ℕ). l ++ (second ++ (third ++ (fourth ++ fifth)))) one ∙ append_assoc start first (second ++ (third ++ (fourth ++ fifth)))

pub front_pushed : (start a b c d e : List ℕ) (flushed place count : ℕ) → a ≡ start ++ to_be_bytes w32 0 → b ≡ a ++ to_be_bytes w32 MARK → c ≡ b ++ to_be_bytes w64 flushed → d ≡ c ++ to_be_bytes w64 place → e ≡ d ++ to_be_bytes w64 count → e ≡ start ++ front_bytes (Some place) flushed count
front_pushed start a b c d e flushed place count = five start (to_be_bytes w32 0) (to_be_bytes w32 MARK) (to_be_bytes w64 flushed) (to_be_bytes w64 place) (to_be_bytes w64 count) a b c d e

pub edit_pushed : (start front all : List ℕ) (edit : Edit) (place : ℕ) → edit.place ≡ Some place → front ≡ start ++ front_bytes (Some place) edit.flushed (length edit.tables) → all ≡ front ++ places_bytes edit.tables → all ≡ start ++ edit_bytes edit
edit_pushed start front all edit place named first last =
    last ∙ ap (λ (l : List ℕ). l ++ places_bytes edit.tables) first ∙ append_assoc start (front_bytes (Some place) edit.flushed (length edit.tables)) (places_bytes edit.tables)
    ∙ ap (λ (p : Option ℕ). start ++ (front_bytes p edit.flushed (length edit.tables) ++ places_bytes edit.tables)) (sym named)

-- ---- bytes that are no edit

-- An edit's bytes begin with its numbers, and have sixteen for each table.
pub record Counted (edit : Edit) (front : Front) (rest : List ℕ) : Type 0 where
  pub flushed_is : edit.flushed ≡ front.flushed
  pub count_is : length edit.tables ≡ front.count
  pub rest_is : length rest ≡ front.count * 16

pub counted : (bytes rest : List ℕ) (edit : Edit) (front : Front) → IsSpelling bytes edit → FrontRead bytes rest (Some front) → Counted edit front rest
counted bytes rest edit front spelled read =
    let same = same_front edit.place front.place edit.flushed front.flushed (length edit.tables) front.count (places_bytes edit.tables) rest spelled.is.front read.1 (sym spelled.spelling ∙ read.0) in
    record { flushed_is = same.1; count_is = same.2; rest_is = ap (λ (xs : List ℕ). length xs) (sym same.3) ∙ length-places edit.tables ∙ ap (λ (n : ℕ). n * 16) same.2 }
