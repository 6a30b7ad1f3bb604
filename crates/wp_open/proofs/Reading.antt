-- The tables at their places: what is read there, and what is wrong.
use Rattle.std.specs.Prelude.{⊤}
use Rattle.std.proofs.Common.{◌≡◌, ◌⊎◌, ℕ, suc, get_or, ◌+◌, ◌-◌, ◌<◌, ◌≤◌, min, List, [], ◌∷◌, ◌++◌, length, take, drop, inl, inr, refl, sym, subst, ap, ◌∙◌, arith, length-take, length-drop}
use Rattle.std.specs.Prelude.{IfSome}
use Rattle.std.specs.List.{AllByRecursion}
use Rattle.std.proofs.Math.Seq.{drop-cons}
use Rattle.std.proofs.lemmas.Bool.{cases_eq}
use Rattle.std.proofs.lemmas.List.{take-append-drop, length-take-le, nil_from_length, take_all, take_more}
use Rattle.wp_outside.specs.declared.disk.Device.TheVariants as device
use Rattle.wp_outside.specs.Disk.{Moment, IfKnown, IsRead, Goes}
use Rattle.wp_outside.specs.Faults.{Rose}
use Rattle.wp_gatelog.specs.Patched.{Shows, EndsAt}
use Rattle.wp_gatelog.proofs.MomentLemmas.{known_map}
use Rattle.wp_gatelog.proofs.PatchLemmas.{shows_all}
use Rattle.wp_model.specs.declared.version.Version.{Version}
use Rattle.wp_manifest.specs.Edit.{Edit}
use Rattle.wp_table.specs.declared.error.TableError.{TableError}
use Rattle.wp_table.specs.declared.error.TableError.TheVariants as table
use Rattle.wp_table.specs.Errors.{table_fault}
use Rattle.wp_table.specs.Faults.{IsTableFault}
use Rattle.wp_table.specs.File.{HasTable}
use Rattle.wp_table.specs.Table.{IsTable, SpellsTable}
use Rattle.wp_refused.specs.declared.bad.Bad.TheVariants as bad
use Rattle.wp_refused.specs.declared.error.OpenError.{OpenError}
use Rattle.wp_refused.specs.declared.error.OpenError.TheVariants as open_error
use Rattle.wp_refused.specs.Damage.{bytes_at, HasTableFault, IsFirstBadTable}
use Rattle.wp_refused.specs.Refused.{IsTableReason}
use Rattle.wp_refused.specs.Shown.{Sometime, WereShown}
use Rattle.wp_refused.specs.Tables.{WasWrong, IsTableCause, IsFirstWrong, WasFirstWrong, IsTablesCause, AreTablesCause}
use Rattle.wp_open.proofs.Shown.{shown_later, shown_push, shown_alone, sometime_now, sometime_map, sometime_alone}

-- ---- one table

-- what a read gave stands at its place; bytes of which none were asked for stand anywhere
pub read_shows : (m : Moment) (buf bytes : List ℕ) (place at n : ℕ) → bytes ≡ take n buf → (place ≡ at) ⊎ (length buf ≡ 0) → IsRead m.reads place buf n → Shows at bytes m
read_shows m buf bytes place at n is where_is read =
    let size : length bytes ≡ n = ap length is ∙ length-take-le n buf (omega (arith, read.count)) in
    let there : take (length bytes) (drop place m.reads) ≡ bytes = ap (λ (k : ℕ). take k (drop place m.reads)) size ∙ sym read.bytes ∙ sym is in
    elim where_is [
      | inl same ↦ subst (λ (k : ℕ). Shows k bytes m) same there
      | inr none ↦ (let no_bytes : bytes ≡ [] = nil_from_length bytes (omega (arith, size, read.count, none)) in subst (λ (l : List ℕ). Shows at l m) (sym no_bytes) refl)
    ]

-- A read that gave less than was asked for saw the device's end; and where less was asked for than the table has, no more was there before.
pub read_ends : (moments : List Moment) (buf bytes : List ℕ) (len at place wanted n : ℕ) → bytes ≡ take n buf → n ≤ length buf → place ≡ min at len → length buf ≡ min wanted (len - place) → IfKnown moments (λ m. IsRead m.reads place buf n) → length bytes < wanted → (len ≤ at + length bytes) ⊎ IfKnown moments (EndsAt at bytes)
read_ends moments buf bytes len at place wanted n is count place_is size_is read short =
    let size : length bytes ≡ n = ap length is ∙ length-take-le n buf (omega (arith, count)) in
    elim (cases_eq n (length buf)) [
      | inl all ↦ inl (omega (arith, size, all, place_is, size_is, short))
      | inr less ↦ inr (known_map (λ m. IsRead m.reads place buf n) (EndsAt at bytes) (λ m r. let k = r.count in omega (arith, size, less, count, place_is, size_is, k)) moments read)
    ]

some_bytes : (id flushed : ℕ) (versions : List Version) (bytes : List ℕ) → SpellsTable id flushed versions bytes → 1 ≤ length bytes
some_bytes id flushed versions bytes spells = omega (arith, ap length spells.2)

pub table_at_place : (id flushed : ℕ) (bytes : List ℕ) (placed : ℕ × ℕ) (versions : List Version) → SpellsTable id flushed versions (bytes_at bytes placed) → placed.1 ≤ length (bytes_at bytes placed) → HasTable id flushed bytes placed versions
table_at_place id flushed bytes placed versions spells whole =
    let rest : List ℕ = drop placed.0 bytes in
    let taken = length-take placed.1 rest in
    let left = length-drop placed.0 bytes in
    let some = some_bytes id flushed versions (bytes_at bytes placed) spells in
    let within : placed.0 ≤ length bytes = omega (arith, taken, left, some) in
    record {
      before = take placed.0 bytes;
      spelling = bytes_at bytes placed;
      after = drop placed.1 rest;
      parts = sym (take-append-drop placed.0 bytes) ∙ ap (λ (l : List ℕ). take placed.0 bytes ++ l) (sym (take-append-drop placed.1 rest));
      place = length-take-le placed.0 bytes within;
      size = omega (arith, taken, whole);
      is = spells;
    }

pub found_table : (id flushed : ℕ) (found : List ℕ) (placed : ℕ × ℕ) (versions : List Version) (moments : List Moment) → SpellsTable id flushed versions found → placed.1 ≤ length found → length found ≤ placed.1 → IfKnown moments (Shows placed.0 found) → IfKnown moments (λ m. HasTable id flushed m.reads placed versions)
found_table id flushed found placed versions moments spells whole fits read =
    let size : length found ≡ placed.1 = omega (arith, whole, fits) in
    known_map (Shows placed.0 found) (λ m. HasTable id flushed m.reads placed versions)
    (λ m there. let same : bytes_at m.reads placed ≡ found = ap (λ (n : ℕ). take n (drop placed.0 m.reads)) (sym size) ∙ there in
    table_at_place id flushed m.reads placed versions (subst (SpellsTable id flushed versions) (sym same) spells) (let n = ap length same in omega (arith, n, whole))) moments read

module _ (id flushed len : ℕ) (placed : ℕ × ℕ) (moments : List Moment) (found : List ℕ) (shown : IfKnown moments (Shows placed.0 found)) (fits : length found ≤ placed.1) (ended : length found < placed.1 → (len ≤ placed.0 + length found) ⊎ IfKnown moments (EndsAt placed.0 found)) where
  was_wrong : (why : TableError) → HasTableFault id flushed placed.1 found why → WasWrong id flushed placed len moments why
  was_wrong why wrong = record { read = found; wrong = wrong; shown = shown; fits = fits; ended = ended }

  -- a table that ends before its place does
  pub short_named : (versions : List Version) → SpellsTable id flushed versions found → length found < placed.1 → WasWrong id flushed placed len moments table.Short
  short_named versions spells short = was_wrong table.Short (inr (versions, spells, short, refl))

  pub fault_named : (rose : Type 0) (why : TableError) (error : OpenError) → IfSome (table_fault why) (λ fault. IsTableFault id flushed found fault) → IsTableReason id placed.0 why error → IsTableCause id flushed placed len rose moments error
  fault_named rose table.Memory error fault is = rw is tt
  fault_named rose (table.Stranger other) error fault is = rw is (refl, was_wrong (table.Stranger other) (inl fault))
  fault_named rose other error fault is = rw is (refl, tt, was_wrong other (inl fault))

-- ---- table after table

module _ (id : ℕ) (edit : Edit) (len start mid now : ℕ) (old new : List Moment) (before after : List (ℕ × ℕ)) (placed : ℕ × ℕ) (parts : List (List Version)) (listed : edit.tables ≡ before ++ placed ∷ after) (went : Goes (λ m. ⊤) old new) (right : WereShown id edit.flushed old new before parts) (sized : Sometime (λ m. len ≡ length m.reads) old new) (as_many : length parts ≡ length before) (are : AllByRecursion (IsTable id edit.flushed) parts) (later : start ≤ mid) where
  first_wrong : (why : TableError) → WasWrong id edit.flushed placed len new why → WasFirstWrong id edit old new placed.0 why
  first_wrong why w = record {
    before = before;
    size = placed.1;
    after = after;
    listed = listed;
    parts = parts;
    as_many = as_many;
    are = are;
    right = right;
    read = w.read;
    wrong = w.wrong;
    shown = sometime_now (Shows placed.0 w.read) old new went w.shown;
    fits = w.fits;
    ended = λ short. elim (w.ended short) [
      | inl low ↦ sometime_map (λ m. len ≡ length m.reads) (EndsAt placed.0 w.read) (λ m is. omega (arith, is, low)) old new sized
      | inr ends ↦ sometime_now (EndsAt placed.0 w.read) old new went ends
    ];
  }

  pub tables_cause : (error : OpenError) → IsTableCause id edit.flushed placed len (Rose mid now) new error → IsTablesCause id (Rose start now) (WasFirstWrong id edit old new) error
  tables_cause open_error.Memory cause = tt
  tables_cause (open_error.OpenFault device.Tables) cause = omega (arith, cause, later)
  tables_cause (open_error.OpenFault device.Log) cause = cause
  tables_cause (open_error.OpenFault device.Manifest) cause = cause
  tables_cause (open_error.Contents (bad.Stranger log found)) cause = (cause.0, placed.0, first_wrong (table.Stranger found) cause.1)
  tables_cause (open_error.Contents (bad.BadTable place why)) cause = (cause.1, subst (λ (p : ℕ). WasFirstWrong id edit old new p why) (sym cause.0) (first_wrong why cause.2))
  tables_cause (open_error.Contents other) cause = absurd cause

-- bytes that a device shows, behind which it ends where they are too few, are all that it has of the table
bytes_there : (m : Moment) (placed : ℕ × ℕ) (read : List ℕ) → Shows placed.0 read m → length read ≤ placed.1 → (length read < placed.1 → EndsAt placed.0 read m) → read ≡ bytes_at m.reads placed
bytes_there m placed read shown fits ended = elim (cases_eq (length read) placed.1) [
  | inl whole ↦ sym shown ∙ ap (λ (n : ℕ). take n (drop placed.0 m.reads)) whole
  | inr less ↦ sym (ap (λ (l : List ℕ). take placed.1 l) (shows_all placed.0 read m shown (ended (omega (arith, less, fits)))) ∙ take_all placed.1 read fits)
]

-- where no moment came, what was wrong stands there
module _ (id : ℕ) (edit : Edit) (rose : Type 0) (old new : List Moment) (same : new ≡ old) where
  first_wrong_alone : (place : ℕ) (why : TableError) → WasFirstWrong id edit old new place why → IsFirstWrong id edit old place why
  first_wrong_alone place why w = record { before = w.before; size = w.size; after = w.after; listed = w.listed; parts = w.parts; as_many = w.as_many; are = w.are; read = w.read; wrong = w.wrong; known = by old new same w.right w.shown w.ended }
    where
      by : (ms now : List Moment) → now ≡ ms → WereShown id edit.flushed ms now w.before w.parts → Sometime (Shows place w.read) ms now → (length w.read < w.size → Sometime (EndsAt place w.read) ms now) → IfKnown ms (λ m. IsFirstBadTable id edit.flushed m.reads edit.tables place why)
      by [] now is right shown ended = tt
      by (m ∷ past) now is right shown ended = record {
        before = w.before;
        size = w.size;
        after = w.after;
        parts = w.parts;
        listed = w.listed;
        right = shown_alone id edit.flushed (m ∷ past) now is w.before w.parts right;
        wrong = subst (λ (read : List ℕ). HasTableFault id edit.flushed w.size read why)
            (bytes_there m (place, w.size) w.read (sometime_alone (Shows place w.read) m past now is shown) w.fits (λ short. sometime_alone (EndsAt place w.read) m past now is (ended short))) w.wrong;
      }

  pub tables_cause_alone : (error : OpenError) → IsTablesCause id rose (WasFirstWrong id edit old new) error → AreTablesCause id edit rose old error
  tables_cause_alone open_error.Memory cause = cause
  tables_cause_alone (open_error.OpenFault which) cause = cause
  tables_cause_alone (open_error.Contents (bad.Stranger log found)) cause = (cause.0, cause.1, first_wrong_alone cause.1 (table.Stranger found) cause.2)
  tables_cause_alone (open_error.Contents (bad.BadTable place why)) cause = (cause.0, first_wrong_alone place why cause.1)
  tables_cause_alone (open_error.Contents other) cause = absurd cause

pub at_place : (items tables : List (ℕ × ℕ)) (i : ℕ) (d : ℕ × ℕ) → i < length items → items ≡ tables → tables ≡ take i items ++ get_or items i d ∷ drop (suc i) items
at_place items tables i d lt same = sym same ∙ sym (take-append-drop i items) ∙ ap (λ (l : List (ℕ × ℕ)). take i items ++ l) (drop-cons items i d lt)

pub tables_more : (id flushed : ℕ) (items : List (ℕ × ℕ)) (i : ℕ) (d : ℕ × ℕ) (parts more : List (List Version)) (versions : List Version) (old mid new : List Moment) → i < length items → more ≡ parts ++ versions ∷ [] → Goes (λ m. ⊤) mid new → Goes (λ m. ⊤) old new
    → WereShown id flushed old mid (take i items) parts → IfKnown new (λ m. HasTable id flushed m.reads (get_or items i d) versions) → WereShown id flushed old new (take (i + 1) items) more
tables_more id flushed items i d parts more versions old mid new lt is looked all shown one =
    rw (take_more items i d lt, is) (shown_push id flushed old new (take i items) parts (get_or items i d) versions (shown_later id flushed old mid new looked (take i items) parts shown)
    (sometime_now (λ m. HasTable id flushed m.reads (get_or items i d) versions) old new all one))

-- one more at the end
pub all_more : (P : List Version → Type 0) (xs ys : List (List Version)) (x : List Version) → ys ≡ xs ++ x ∷ [] → AllByRecursion P xs → P x → AllByRecursion P ys
all_more P xs ys x is all one = subst (AllByRecursion P) (sym is) (by xs all)
  where
    by : (zs : List (List Version)) → AllByRecursion P zs → AllByRecursion P (zs ++ x ∷ [])
    by [] h = (one, tt)
    by (z ∷ zs) (first, rest) = (first, by zs rest)
