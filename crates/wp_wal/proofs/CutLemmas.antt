-- Records that spell a cut.
use Rattle.std.proofs.Common.{◌≡◌, ◌≢◌, inl, inr, ℕ, ◌+◌, ◌<◌, List, [], ◌∷◌, ◌++◌, length, take, get_or, Ok, Result, refl, sym, ap, subst, ◌∙◌, arith}
use Rattle.std.proofs.lemmas.List.{take_more}
use Rattle.std.proofs.lemmas.Option.{slice_get_read}
use Rattle.wp_model.specs.declared.entry.Entry.{Entry}
use Rattle.wp_cuts.specs.Cut.{Cut}
use Rattle.wp_fields.specs.declared.format.Format.{Format}
use Rattle.wp_fields.specs.declared.format.Format.TheVariants.{One, Two}
use Rattle.wp_entry.specs.declared.error.RecordError.{RecordError}
use Rattle.wp_entry.specs.Base.{Base, IsBase, base_bytes}
use Rattle.wp_entry.specs.BaseReading.{base_at}
use Rattle.wp_entry.specs.Record.{IsRecord, record_bytes}
use Rattle.wp_wal.specs.declared.error.WalError.{WalError}
use Rattle.wp_wal.specs.declared.error.WalError.TheVariants.{Memory, DiskFault, BadHead, BadRecord, Illegal}
use Rattle.wp_wal.specs.Reading.{IsBaseCause, IsRecordCause, IsRefusedRecord, LiesAt, TakesRecord, next_number}
use Rattle.wp_wal.specs.Spelling.{AreCut, AreEntries, IsBegun, base_of_cut, longer, uncut}
use Rattle.wp_wal.proofs.EntriesLemmas.{AreEntries-first, AreEntries-push_at, SpellingsDiffer}

-- a base is read from its spelling
abbrev pub AreBasesRead : Type 0
AreBasesRead = (base : Base) → IsBase base → base_at (base_bytes base) ≡ Ok base

same_ok : (one other : Base) → ◌≡◌ {A = Result Base RecordError} (Ok one) (Ok other) → one ≡ other
same_ok one other e = cc

-- bytes are one base
pub one_base : AreBasesRead → (one other : Base) (bytes : List ℕ) → IsBase one → bytes ≡ base_bytes one → IsBase other → bytes ≡ base_bytes other → one ≡ other
one_base read one other bytes is spelled too also =
    same_ok one other (sym (read one is) ∙ ap base_at (sym spelled ∙ also) ∙ read other too)

some_push : (records : List (List ℕ)) (bytes : List ℕ) → records ++ bytes ∷ [] ≢ []
some_push [] bytes e = cc e
some_push (r ∷ records) bytes e = cc e

-- ---- one record more

pub AreCut-push : (format : Format) (place : ℕ) (records : List (List ℕ)) (c : Cut) (next : List Entry) → AreCut format place records c → IsBegun format records → IsRecord format (c.base + length c.entries + 1) next
    → AreCut format place (records ++ record_bytes format (c.base + length c.entries + 1) next ∷ []) (longer c next)
AreCut-push One place records c next (none, nothing, are, at) begun one =
    let due : c.base + length c.entries + 1 ≡ 1 + length c.entries = omega (arith, none) in
    let bytes : List ℕ = record_bytes One (c.base + length c.entries + 1) next in (
      none,
      nothing,
      subst (λ (n : ℕ). AreEntries One 1 (records ++ record_bytes One n next ∷ []) (c.entries ++ next)) (sym due)
          (AreEntries-push_at One 1 records c.entries next are (subst (λ (n : ℕ). IsRecord One n next) due one)),
      inr (some_push records bytes),
    )
AreCut-push Two place [] c next spelled begun one = absurd (begun refl)
AreCut-push Two place (first ∷ others) c next (is, bytes, are) begun one =
    let due : c.base + length c.entries + 1 ≡ (c.base + 1) + length c.entries = omega arith in (
      is,
      bytes,
      subst (λ (n : ℕ). AreEntries Two (c.base + 1) (others ++ record_bytes Two n next ∷ []) (c.entries ++ next)) (sym due)
          (AreEntries-push_at Two (c.base + 1) others c.entries next are (subst (λ (n : ℕ). IsRecord Two n next) due one)),
    )

pub begun-push : (format : Format) (records : List (List ℕ)) (bytes : List ℕ) → IsBegun format (records ++ bytes ∷ [])
begun-push One records bytes = tt
begun-push Two records bytes = some_push records bytes

-- ---- records that begin others

-- a cut is its base, what it carries, and its entries
same_cut : (c d : Cut) (more : List Entry) → base_of_cut d ≡ base_of_cut c → d.entries ≡ c.entries ++ more → d ≡ longer c more
same_cut c d more base entries = λ i. record { base = (base i).number; carried = (base i).carried; entries = entries i }

no_base : (c d : Cut) → c.base ≡ 0 → c.carried ≡ [] → d.base ≡ 0 → d.carried ≡ [] → base_of_cut d ≡ base_of_cut c
no_base c d none nothing zero empty = λ i. record { number = (zero ∙ sym none) i; carried = (empty ∙ sym nothing) i }

pub AreCut-first : SpellingsDiffer → AreBasesRead → (format : Format) (place : ℕ) (records others : List (List ℕ)) (c d : Cut) → AreCut format place records c → IsBegun format records → AreCut format place (records ++ others) d
    → (more : List Entry) × (d ≡ longer c more)
AreCut-first differ read One place records others c d (none, nothing, are, at) begun (zero, empty, all, there) =
    let found = AreEntries-first differ One 1 records others c.entries d.entries are all in
    (found.0, same_cut c d found.0 (no_base c d none nothing zero empty) found.1)
AreCut-first differ read Two place [] others c d spelled begun all = absurd (begun refl)
AreCut-first differ read Two place (first ∷ records) others c d (is, bytes, are) begun (too, also, all) =
    let base : base_of_cut d ≡ base_of_cut c = one_base read (base_of_cut d) (base_of_cut c) first too also is bytes in
    let same : d.base ≡ c.base = ap (λ (b : Base). b.number) base in
    let found = AreEntries-first differ Two (c.base + 1) records others c.entries d.entries are (subst (λ (n : ℕ). AreEntries Two (n + 1) (records ++ others) d.entries) same all) in
    (found.0, same_cut c d found.0 base found.1)

-- ---- one cut

-- what records of either version spell where there are none
cut_of_none : (format : Format) (place : ℕ) (c : Cut) → AreCut format place [] c → c ≡ uncut []
cut_of_none One place c (none, nothing, are, at) = λ i. record { base = none i; carried = nothing i; entries = are i }
cut_of_none Two place c spelled = spelled.1

-- two cuts with one base and the same entries
pub joined : (c d : Cut) → base_of_cut c ≡ base_of_cut d → c.entries ≡ d.entries → c ≡ d
joined c d base entries = λ i. record { base = (base i).number; carried = (base i).carried; entries = entries i }

-- entries from a number on are those of one list
abbrev pub AreEntriesOnce : Type 0
AreEntriesOnce = (format : Format) (first : ℕ) (records : List (List ℕ)) (one other : List Entry) → AreEntries format first records one → AreEntries format first records other → one ≡ other

pub one_cut : AreEntriesOnce → AreBasesRead → (format : Format) (place : ℕ) (records : List (List ℕ)) (c d : Cut) → AreCut format place records c → AreCut format place records d → c ≡ d
one_cut once read One place records c d (none, nothing, are, at) (zero, empty, all, there) =
    joined c d (no_base d c zero empty none nothing) (once One 1 records c.entries d.entries are all)
one_cut once read Two place [] c d one other = one.1 ∙ sym other.1
one_cut once read Two place (first ∷ records) c d (is, bytes, are) (too, also, all) =
    let base : base_of_cut c ≡ base_of_cut d = one_base read (base_of_cut c) (base_of_cut d) first is bytes too also in
    let same : d.base ≡ c.base = sym (ap (λ (b : Base). b.number) base) in
    joined c d base (once Two (c.base + 1) records c.entries d.entries are (subst (λ (n : ℕ). AreEntries Two (n + 1) records d.entries) same all))

-- ---- the place

-- what is spelled at place 0 is spelled at each place, where there are records or it is that one
pub placed : (format : Format) (place : ℕ) (records : List (List ℕ)) (c : Cut) → (records ≡ [] → place ≡ 0) → AreCut format 0 records c → AreCut format place records c
placed One place [] c at (none, nothing, are, there) = (none, nothing, are, inl (at refl))
placed One place (r ∷ records) c at (none, nothing, are, there) = (none, nothing, are, inr (λ e. cc e))
placed Two place [] c at spelled = (at refl, spelled.1)
placed Two place (r ∷ records) c at spelled = spelled

-- ---- one record more was read

pub read_more : (format : Format) (records : List (List ℕ)) (i : ℕ) (here : List ℕ) (c d : Cut) → i < length records → here ≡ get_or records i here → AreCut format 0 (take i records) c → IsBegun format (take i records) → TakesRecord format c d here
    → AreCut format 0 (take (i + 1) records) d
read_more format records i here c d lt is so_far begun takes =
    let piece : take (i + 1) records ≡ take i records ++ record_bytes format (next_number c) takes.entries ∷ [] = take_more records i here lt ∙ ap (λ (x : List ℕ). take i records ++ x ∷ []) (sym is ∙ takes.spelling) in
    rw (takes.whole, piece) (AreCut-push format 0 (take i records) c takes.entries so_far begun takes.is)

pub refused_there : (format : Format) (place : ℕ) (records : List (List ℕ)) (i : ℕ) (here : List ℕ) (c : Cut) (why : WalError) → i < length records → here ≡ get_or records i here → AreCut format 0 (take i records) c → IsBegun format (take i records)
    → IsRefusedRecord format c i here why → IsRecordCause format place records why
refused_there format place records i here c Memory lt is so_far begun refused = tt
refused_there format place records i here c DiskFault lt is so_far begun refused = absurd refused
refused_there format place records i here c BadHead lt is so_far begun refused = absurd refused
refused_there format place records i here c (BadRecord index why) lt is so_far begun refused =
    let lies : LiesAt format records i c here = record { before = so_far; begun = begun; there = slice_get_read records (length records) i here refl lt is } in
    rw refused.0 (inl (c, here, lies, refused.1))
refused_there format place records i here c (Illegal number) lt is so_far begun refused =
    let lies : LiesAt format records i c here = record { before = so_far; begun = begun; there = slice_get_read records (length records) i here refl lt is } in
    inl (i, c, here, lies, refused)

-- the first record is no base
pub base_refused : (place : ℕ) (first : List ℕ) (others : List (List ℕ)) (why : WalError) → IsBaseCause first why → IsRecordCause Two place (first ∷ others) why
base_refused place first others Memory cause = tt
base_refused place first others DiskFault cause = absurd cause
base_refused place first others BadHead cause = absurd cause
base_refused place first others (BadRecord index why) cause = inr (inl (cause.0, first, refl, cause.1))
base_refused place first others (Illegal number) cause = inr (first, refl, cause)
