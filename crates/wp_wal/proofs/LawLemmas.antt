-- Records spell an orderly cut, or are refused for one reason.
use Rattle.std.proofs.Common.{◌≡◌, ◌≢◌, ◌⊎◌, ℕ, zero, suc, ◌+◌, ◌<◌, List, [], ◌∷◌, ◌++◌, length, take, drop, None, Some, Ok, Err, Result, refl, sym, ap, subst, ◌∙◌, inl, inr, append_assoc, append-nil, take-take, arith, length-append}
use Rattle.std.specs.Prelude.{slice_get}
use Rattle.std.proofs.lemmas.Bool.{cases_order}
use Rattle.std.proofs.lemmas.Option.{none-some, same_Some}
use Rattle.wp_model.specs.declared.entry.Entry.{Entry}
use Rattle.wp_model.specs.Legal.{IsLegal, IsLegalNext, IsOrderlyNext}
use Rattle.wp_cuts.specs.Cut.{Cut}
use Rattle.wp_cuts.specs.LegalCut.{IsOrderlyCut, prepares_of}
use Rattle.wp_fields.specs.declared.format.Format.{Format}
use Rattle.wp_fields.specs.declared.format.Format.TheVariants.{One, Two}
use Rattle.wp_entry.specs.declared.error.RecordError.{RecordError}
use Rattle.wp_entry.specs.Base.{Base}
use Rattle.wp_entry.specs.BaseReading.{base_at}
use Rattle.wp_entry.specs.Record.{IsRecord, record_bytes}
use Rattle.wp_entry.specs.Reading.{record_at}
use Rattle.wp_gatelog.specs.Damage.{IsBadHeadAt, IsCut}
use Rattle.wp_gatelog.specs.Spelling.{Stamp, stamped, IsUpTo, SpellsAt}
use Rattle.wp_history.specs.Outline.{collision_of}
use Rattle.wp_wal.specs.Spelling.{MAGIC, NEWEST, AreCut, AreEntries, IsBegun, IsLogAt, base_of_cut, longer}
use Rattle.wp_wal.specs.Opening.{IsBadLog, IsIllegalLog}
use Rattle.wp_wal.specs.Reading.{IsBadBase, IsBadRecord, IsIllegal, IsIllegalAmong, IsIllegalCarried, IsIllegalRecord, IsJudged, IsMissing, MayCome, IsNoRecord, LiesAt, next_number}
use Rattle.wp_wal.proofs.CutLemmas.{AreBasesRead, one_base, one_cut, joined}

-- ---- what the layers below say

-- records are read from their spelling
abbrev pub AreRead : Type 0
AreRead = (format : Format) (first : ℕ) (entries : List Entry) → IsRecord format first entries → record_at format first (record_bytes format first entries) ≡ Ok entries

-- what an orderly cut carries does not collide
abbrev pub AreNoCollisions : Type 0
AreNoCollisions = (c : Cut) → IsJudged c → collision_of c.carried ≡ None

-- what an orderly cut begins with is orderly
abbrev pub HasOrderlyFronts : Type 0
HasOrderlyFronts = (c : Cut) (more : List Entry) → IsJudged (longer c more) → IsJudged c

-- each entry of an orderly cut may come behind those before it
abbrev pub IsOrderlyAtEach : Type 0
IsOrderlyAtEach = (c : Cut) (more : List Entry) (entry : Entry) → IsJudged (longer c (entry ∷ more)) → MayCome c entry

-- from what is said of orderly cuts and of legal histories
pub none_collide_judged : ((c : Cut) → IsOrderlyCut c → collision_of c.carried ≡ None) → AreNoCollisions
none_collide_judged apart c judged = apart c judged.orderly

pub judged_fronts : ((c : Cut) (more : List Entry) → IsOrderlyCut (longer c more) → IsOrderlyCut c) → ((history more : List Entry) → IsLegal (history ++ more) → IsLegal history) → HasOrderlyFronts
judged_fronts front legal c more judged = record { orderly = front c more judged.orderly; legal = λ none. legal c.entries more (judged.legal none) }

pub judged_each : ((c : Cut) (more : List Entry) (entry : Entry) → IsOrderlyCut (longer c (entry ∷ more)) → IsOrderlyNext (prepares_of c) entry) → ((front more : List Entry) (entry : Entry) → IsLegal (front ++ entry ∷ more) → IsLegalNext front entry) → IsOrderlyAtEach
judged_each each legal c more entry judged = (each c more entry judged.orderly, λ none. legal c.entries more entry (judged.legal none))

-- ---- one record

same_ok : (one other : List Entry) → ◌≡◌ {A = Result (List Entry) RecordError} (Ok one) (Ok other) → one ≡ other
same_ok one other e = cc

same_err : (why also : RecordError) → ◌≡◌ {A = Result (List Entry) RecordError} (Err why) (Err also) → why ≡ also
same_err why also e = cc

err_not_ok : (why : RecordError) (entries : List Entry) → ◌≡◌ {A = Result (List Entry) RecordError} (Err why) (Ok entries) → ⊥
err_not_ok why entries e = absurd cc

-- what is spelled so is read so
spelled_read : AreRead → (format : Format) (first : ℕ) (bytes : List ℕ) (entries : List Entry) → IsRecord format first entries → bytes ≡ record_bytes format first entries → record_at format first bytes ≡ Ok entries
spelled_read read format first bytes entries is spelled = ap (record_at format first) spelled ∙ read format first entries is

same_entries : AreRead → (format : Format) (first : ℕ) (bytes : List ℕ) (one other : List Entry) → IsRecord format first one → bytes ≡ record_bytes format first one → IsRecord format first other → bytes ≡ record_bytes format first other → one ≡ other
same_entries read format first bytes one other is_one one_spelled is_other other_spelled =
    same_ok one other (sym (spelled_read read format first bytes one is_one one_spelled) ∙ spelled_read read format first bytes other is_other other_spelled)

no_record : AreRead → (format : Format) (c : Cut) (bytes : List ℕ) (why : RecordError) (entries : List Entry) → IsNoRecord format c bytes why → IsRecord format (next_number c) entries → bytes ≡ record_bytes format (next_number c) entries → ⊥
no_record read format c bytes why entries refused is spelled = err_not_ok why entries (sym refused.wrong ∙ spelled_read read format (next_number c) bytes entries is spelled)

-- ---- the entries of the first records

-- all entries are those of the first records and those that the records after them spell
record Splits (format : Format) (first : ℕ) (following : List (List ℕ)) (front whole : List Entry) : Type 0 where
  rest : List Entry
  parts : whole ≡ front ++ rest
  spelled : AreEntries format (first + length front) following rest

entries_split : AreRead → (format : Format) (first : ℕ) (before following : List (List ℕ)) (front whole : List Entry) → AreEntries format first before front → AreEntries format first (before ++ following) whole → Splits format first following front whole
entries_split read format first [] following front whole none all =
    let place : first ≡ first + length front = rw none (omega arith) in
    record { rest = whole; parts = rw none refl; spelled = subst (λ (n : ℕ). AreEntries format n following whole) place all }
entries_split read format first (bytes ∷ before) following front whole (one, others, parts, is, spelled, more) (this, those, all_parts, this_is, this_spelled, all_more) =
    let same : this ≡ one = same_entries read format first bytes this one this_is this_spelled is spelled in
    let next : AreEntries format (first + length one) (before ++ following) those = subst (λ (e : List Entry). AreEntries format (first + length e) (before ++ following) those) same all_more in
    let split = entries_split read format (first + length one) before following others those more next in
    let place : (first + length one) + length others ≡ first + length front = omega (arith, ap (λ (e : List Entry). length e) parts, length-append one others) in
    record {
      rest = split.rest;
      parts = all_parts ∙ ap (λ (e : List Entry). e ++ those) same ∙ ap (λ (e : List Entry). one ++ e) split.parts ∙ sym (append_assoc one others split.rest) ∙ ap (λ (e : List Entry). e ++ split.rest) (sym parts);
      spelled = subst (λ (n : ℕ). AreEntries format n following split.rest) place split.spelled;
    }

pub one_entries : AreRead → (format : Format) (first : ℕ) (records : List (List ℕ)) (history another : List Entry) → AreEntries format first records history → AreEntries format first records another → history ≡ another
one_entries read format first records history another one other =
    let split = entries_split read format first records [] history another one (subst (λ (r : List (List ℕ)). AreEntries format first r another) (sym (append-nil records)) other) in
    sym (split.parts ∙ ap (λ (e : List Entry). history ++ e) split.spelled ∙ append-nil history)

-- ---- a record among those of a cut

cut_at : (records : List (List ℕ)) (index : ℕ) (bytes : List ℕ) → slice_get records index ≡ Some bytes → records ≡ take index records ++ bytes ∷ drop (suc index) records
cut_at [] index bytes at = absurd (none-some bytes at)
cut_at (first ∷ records) zero bytes at = ap (λ (b : List ℕ). b ∷ records) (same_Some first bytes at)
cut_at (first ∷ records) (suc index) bytes at = ap (λ (rest : List (List ℕ)). first ∷ rest) (cut_at records index bytes at)

-- The record behind the cut is entries that are there in the whole.
record TakenAt (format : Format) (c d : Cut) (bytes : List ℕ) : Type 0 where
  entries : List Entry
  rest : List Entry
  is : IsRecord format (next_number c) entries
  spelling : bytes ≡ record_bytes format (next_number c) entries
  whole : d ≡ longer c (entries ++ rest)

taken_after : (format : Format) (first : ℕ) (c d : Cut) (bytes : List ℕ) (following : List (List ℕ)) → base_of_cut d ≡ base_of_cut c → first + length c.entries ≡ next_number c → Splits format first (bytes ∷ following) c.entries d.entries → TakenAt format c d bytes
taken_after format first c d bytes following base place split =
    let found = split.spelled in
    record {
      entries = found.0;
      rest = found.1;
      is = subst (λ (n : ℕ). IsRecord format n found.0) place found.3;
      spelling = found.4 ∙ ap (λ (n : ℕ). record_bytes format n found.0) place;
      whole = joined d (longer c (found.0 ++ found.1)) base (split.parts ∙ ap (λ (e : List Entry). c.entries ++ e) found.2);
    }

taken_at : AreRead → AreBasesRead → (format : Format) (place : ℕ) (records : List (List ℕ)) (index : ℕ) (c d : Cut) (bytes : List ℕ) → LiesAt format records index c bytes → AreCut format place records d → TakenAt format c d bytes
taken_at read bases One place records index c d bytes lies (none_too, empty, all, there) =
    let none : c.base ≡ 0 = lies.before.0 in
    let nothing = lies.before.1 in
    let following = drop (suc index) records in
    let cut : AreEntries One 1 (take index records ++ bytes ∷ following) d.entries = subst (λ (r : List (List ℕ)). AreEntries One 1 r d.entries) (cut_at records index bytes lies.there) all in
    taken_after One 1 c d bytes following (λ i. record { number = (none_too ∙ sym none) i; carried = (empty ∙ sym nothing) i }) (omega (arith, none))
    (entries_split read One 1 (take index records) (bytes ∷ following) c.entries d.entries lies.before.2 cut)
taken_at read bases Two place [] index c d bytes lies spelled = absurd (none-some bytes lies.there)
taken_at read bases Two place (first ∷ tail) zero c d bytes lies spelled = absurd (lies.begun refl)
taken_at read bases Two place (first ∷ tail) (suc index) c d bytes lies (too, also, all) =
    let base : base_of_cut d ≡ base_of_cut c = one_base bases (base_of_cut d) (base_of_cut c) first too also lies.before.0 lies.before.1 in
    let same : d.base ≡ c.base = ap (λ (b : Base). b.number) base in
    let following = drop (suc index) tail in
    let cut : AreEntries Two (c.base + 1) (take index tail ++ bytes ∷ following) d.entries =
    subst (λ (r : List (List ℕ)). AreEntries Two (c.base + 1) r d.entries) (cut_at tail index bytes lies.there) (subst (λ (n : ℕ). AreEntries Two (n + 1) tail d.entries) same all) in
    taken_after Two (c.base + 1) c d bytes following base (omega arith) (entries_split read Two (c.base + 1) (take index tail) (bytes ∷ following) c.entries d.entries lies.before.2 cut)

base_err : (why : RecordError) (base : Base) → ◌≡◌ {A = Result Base RecordError} (Err why) (Ok base) → ⊥
base_err why base e = absurd cc

-- the first record of a cut is its base
base_not_bad : AreBasesRead → (format : Format) (place : ℕ) (records : List (List ℕ)) (index : ℕ) (why : RecordError) (d : Cut) → IsBegun format records → AreCut format place records d → IsBadBase format records index why → ⊥
base_not_bad bases One place records index why d begun spelled bad = absurd bad
base_not_bad bases Two place [] index why d begun spelled bad = begun refl
base_not_bad bases Two place (first ∷ others) index why d begun (is, bytes, are) bad =
    let same : first ≡ bad.1 = same_Some first bad.1 bad.2 in
    base_err why (base_of_cut d) (sym bad.3 ∙ ap base_at (sym same ∙ bytes) ∙ bases (base_of_cut d) is)

-- where there is a record, the base is there before it or is it
begun_there : (format : Format) (records : List (List ℕ)) (index : ℕ) (bytes : List ℕ) → slice_get records index ≡ Some bytes → IsBegun format records
begun_there One records index bytes there = tt
begun_there Two [] index bytes there = absurd (none-some bytes there)
begun_there Two (r ∷ records) index bytes there = λ e. cc e

-- where all records spell a cut, none is bad
cut_not_bad : AreRead → AreBasesRead → (format : Format) (place : ℕ) (records : List (List ℕ)) (index : ℕ) (why : RecordError) (d : Cut) → AreCut format place records d → IsBadRecord format place records index why → ⊥
cut_not_bad read bases format place records index why d all (inl (c, bytes, lies, refused)) =
    let taken = taken_at read bases format place records index c d bytes lies all in
    no_record read format c bytes why taken.entries refused taken.is taken.spelling
cut_not_bad read bases One place records index why d all (inr (inl bad)) = absurd bad
cut_not_bad read bases Two place records index why d all (inr (inl bad)) = base_not_bad bases Two place records index why d (begun_there Two records 0 bad.1 bad.2) all bad
cut_not_bad read bases One place records index why d all (inr (inr missing)) = elim all.3 [ inl at ↦ missing.0 at | inr some ↦ some missing.1 ]
cut_not_bad read bases Two place [] index why d all (inr (inr missing)) = missing.0 all.0
cut_not_bad read bases Two place (r ∷ records) index why d all (inr (inr missing)) = absurd (cc missing.1)

-- the entry with that number is in the whole where it may not be
illegal_within : HasOrderlyFronts → IsOrderlyAtEach → (c d : Cut) (entries rest : List Entry) (number : ℕ) → d ≡ longer c (entries ++ rest) → IsJudged d → IsIllegalAmong c entries number → ⊥
illegal_within fronts each c d entries rest number whole orderly among =
    let tail : entries ++ rest ≡ among.before ++ among.entry ∷ (among.after ++ rest) = ap (λ (e : List Entry). e ++ rest) among.parts ∙ append_assoc among.before (among.entry ∷ among.after) rest in
    let there : d ≡ longer (longer c among.before) (among.entry ∷ (among.after ++ rest)) =
    whole ∙ ap (λ (e : List Entry). longer c e) tail ∙ ap (λ (e : List Entry). record c { entries = e }) (sym (append_assoc c.entries among.before (among.entry ∷ (among.after ++ rest)))) in
    among.illegal (each (longer c among.before) (among.after ++ rest) among.entry (subst IsJudged there orderly))

none_carried : AreNoCollisions → AreBasesRead → (place : ℕ) (first : List ℕ) (others : List (List ℕ)) (d : Cut) (number : ℕ) → AreCut Two place (first ∷ others) d → IsJudged d → IsIllegalCarried Two (first ∷ others) number → ⊥
none_carried none bases place first others d number (is, bytes, are) orderly bad =
    let same : first ≡ bad.0 = same_Some first bad.0 bad.1 in
    let base : bad.2.base ≡ base_of_cut d = one_base bases bad.2.base (base_of_cut d) first bad.2.is (same ∙ bad.2.spelling) is bytes in
    none-some number (sym (none d orderly) ∙ sym (ap (λ (b : Base). collision_of b.carried) base) ∙ bad.2.collides)

-- where all records spell an orderly cut, none of its entries is illegal
orderly_not_illegal : AreRead → AreBasesRead → AreNoCollisions → HasOrderlyFronts → IsOrderlyAtEach → (format : Format) (place : ℕ) (records : List (List ℕ)) (number : ℕ) (d : Cut) → AreCut format place records d → IsJudged d → IsIllegal format records number → ⊥
orderly_not_illegal read bases none fronts each format place records number d all orderly (inl (index, c, bytes, lies, illegal)) =
    let taken = taken_at read bases format place records index c d bytes lies all in
    let same : taken.entries ≡ illegal.entries = same_entries read format (next_number c) bytes taken.entries illegal.entries taken.is taken.spelling illegal.is illegal.spelling in
    illegal_within fronts each c d illegal.entries taken.rest number (taken.whole ∙ ap (λ (e : List Entry). longer c (e ++ taken.rest)) same) orderly illegal.among
orderly_not_illegal read bases none fronts each One place records number d all orderly (inr bad) = absurd bad
orderly_not_illegal read bases none fronts each Two place [] number d all orderly (inr bad) = absurd (none-some bad.0 bad.1)
orderly_not_illegal read bases none fronts each Two place (first ∷ others) number d all orderly (inr bad) = none_carried none bases place first others d number all orderly bad

-- ---- two places

slice_get_take : (records : List (List ℕ)) (n i : ℕ) → i < n → slice_get (take n records) i ≡ slice_get records i
slice_get_take records zero i lt = absurd (omega arith)
slice_get_take [] (suc n) i lt = refl
slice_get_take (bytes ∷ records) (suc n) zero lt = refl
slice_get_take (bytes ∷ records) (suc n) (suc i) lt = slice_get_take records n i (omega arith)

-- what a longer front begins with
longer_front : (before longer : List Entry) (entry : Entry) (after following : List Entry) → before ++ entry ∷ after ≡ longer ++ following → length before < length longer → (more : List Entry) × (longer ≡ before ++ entry ∷ more)
longer_front [] [] entry after following is lt = absurd (omega arith)
longer_front (first ∷ before) [] entry after following is lt = absurd (omega arith)
longer_front [] (first ∷ longer) entry after following is lt =
    let same : first ≡ entry = cc in
    (longer, ap (λ (e : Entry). e ∷ longer) same)
longer_front (one ∷ before) (first ∷ longer) entry after following is lt =
    let same : first ≡ one = cc in
    let tail : before ++ entry ∷ after ≡ longer ++ following = cc in
    let found = longer_front before longer entry after following tail (omega arith) in
    (found.0, ap (λ (e : Entry). e ∷ longer) same ∙ ap (λ (e : List Entry). one ∷ e) found.1)

-- a record lies so among those before a later one
lies_before : (format : Format) (records : List (List ℕ)) (index later : ℕ) (c : Cut) (bytes : List ℕ) → index < later → LiesAt format records index c bytes → LiesAt format (take later records) index c bytes
lies_before format records index later c bytes lt lies =
    let same : take index (take later records) ≡ take index records = take-take index later records (omega arith) in
    record {
      before = subst (λ (r : List (List ℕ)). AreCut format 0 r c) (sym same) lies.before;
      begun = subst (λ (r : List (List ℕ)). IsBegun format r) (sym same) lies.begun;
      there = slice_get_take records later index lt ∙ lies.there;
    }

-- the base record is among those before a later one
base_before : (format : Format) (records : List (List ℕ)) (later : ℕ) (c : Cut) (bytes : List ℕ) (index : ℕ) (why : RecordError) → LiesAt format records later c bytes → IsBadBase format records index why → IsBadBase format (take later records) index why
base_before One records later c bytes index why lies bad = absurd bad
base_before Two records zero c bytes index why lies bad = absurd (lies.begun refl)
base_before Two records (suc later) c bytes index why lies bad = (bad.0, bad.1, slice_get_take records (suc later) 0 (omega arith) ∙ bad.2, bad.3)

carried_before : (format : Format) (records : List (List ℕ)) (later : ℕ) (c : Cut) (bytes : List ℕ) (number : ℕ) → LiesAt format records later c bytes → IsIllegalCarried format records number → IsIllegalCarried format (take later records) number
carried_before One records later c bytes number lies bad = absurd bad
carried_before Two records zero c bytes number lies bad = absurd (lies.begun refl)
carried_before Two records (suc later) c bytes number lies bad = (bad.0, slice_get_take records (suc later) 0 (omega arith) ∙ bad.1, bad.2)

module _ (read : AreRead) (bases : AreBasesRead) (format : Format) (records : List (List ℕ)) where
  -- no record before one that comes behind a cut is bad
  none_bad_before : (index later : ℕ) (why : RecordError) (c d : Cut) (here bytes : List ℕ) → index < later → LiesAt format records index c here → IsNoRecord format c here why → LiesAt format records later d bytes → ⊥
  none_bad_before index later why c d here bytes lt lies refused following =
      cut_not_bad read bases format 0 (take later records) index why d following.before (inl (c, here, lies_before format records index later c here lt lies, refused))

  no_bad_base : (later index : ℕ) (why : RecordError) (d : Cut) (bytes : List ℕ) → LiesAt format records later d bytes → IsBadBase format records index why → ⊥
  no_bad_base later index why d bytes following bad =
      base_not_bad bases format 0 (take later records) index why d following.begun following.before (base_before format records later d bytes index why following bad)

  -- where a record lies, some are there
  none_missing : (place later index : ℕ) (why : RecordError) (d : Cut) (bytes : List ℕ) → LiesAt format records later d bytes → IsMissing place records index why → ⊥
  none_missing place later index why d bytes following missing = none-some bytes (subst (λ (r : List (List ℕ)). slice_get r later ≡ Some bytes) missing.1 following.there)

  same_cut_there : (index : ℕ) (c d : Cut) (bytes those : List ℕ) → LiesAt format records index c bytes → LiesAt format records index d those → (P : Cut → List ℕ → Type 0) → P d those → P c bytes
  same_cut_there index c d bytes those one other P p =
      let cuts : d ≡ c = one_cut (one_entries read) bases format 0 (take index records) d c other.before one.before in
      let here : those ≡ bytes = same_Some those bytes (sym other.there ∙ one.there) in
      subst (λ (b : List ℕ). P c b) here (subst (λ (x : Cut). P x those) cuts p)

  -- ---- the first record that is bad

  one_bad_place : (index other : ℕ) (why also : RecordError) (c d : Cut) (bytes those : List ℕ) → LiesAt format records index c bytes → IsNoRecord format c bytes why → LiesAt format records other d those → IsNoRecord format d those also → (index ≡ other) × (why ≡ also)
  one_bad_place index other why also c d bytes those lies refused lies_too refused_too = elim (cases_order index other) [
    | inl same ↦
        let moved = same_cut_there index c d bytes those lies (subst (λ (i : ℕ). LiesAt format records i d those) (sym same) lies_too) (λ (x : Cut) (b : List ℕ). IsNoRecord format x b also) refused_too in
        (same, same_err why also (sym refused.wrong ∙ moved.wrong))
    | inr apart ↦ elim apart [
      | inl lt ↦ absurd (none_bad_before index other why c d bytes those lt lies refused lies_too)
      | inr lt ↦ absurd (none_bad_before other index also d c those bytes lt lies_too refused_too lies)
    ]
  ]

base_why : (why also : RecordError) → ◌≡◌ {A = Result Base RecordError} (Err why) (Err also) → why ≡ also
base_why why also e = cc

one_bad_base : (format : Format) (records : List (List ℕ)) (index other : ℕ) (why also : RecordError) → IsBadBase format records index why → IsBadBase format records other also → (index ≡ other) × (why ≡ also)
one_bad_base One records index other why also one two = absurd one
one_bad_base Two records index other why also one two =
    let same : one.1 ≡ two.1 = same_Some one.1 two.1 (sym one.2 ∙ two.2) in
    (one.0 ∙ sym two.0, base_why why also (sym one.3 ∙ ap base_at same ∙ two.3))

base_or_missing : (format : Format) (place : ℕ) (records : List (List ℕ)) (index other : ℕ) (why also : RecordError) → IsBadBase format records index why → IsMissing place records other also → ⊥
base_or_missing One place records index other why also bad missing = absurd bad
base_or_missing Two place records index other why also bad missing = none-some bad.1 (subst (λ (r : List (List ℕ)). slice_get r 0 ≡ Some bad.1) missing.1 bad.2)

pub one_bad_record : AreRead → AreBasesRead → (format : Format) (place : ℕ) (records : List (List ℕ)) (index other : ℕ) (why also : RecordError) → IsBadRecord format place records index why → IsBadRecord format place records other also → (index ≡ other) × (why ≡ also)
one_bad_record read bases format place records index other why also (inl (c, bytes, lies, refused)) (inl (d, those, lies_too, refused_too)) = one_bad_place read bases format records index other why also c d bytes those lies refused lies_too refused_too
one_bad_record read bases format place records index other why also (inl (c, bytes, lies, refused)) (inr (inl bad)) = absurd (no_bad_base read bases format records index other also c bytes lies bad)
one_bad_record read bases format place records index other why also (inl (c, bytes, lies, refused)) (inr (inr missing)) = absurd (none_missing read bases format records place index other also c bytes lies missing)
one_bad_record read bases format place records index other why also (inr (inl bad)) (inl (d, those, lies_too, refused_too)) = absurd (no_bad_base read bases format records other index why d those lies_too bad)
one_bad_record read bases format place records index other why also (inr (inl bad)) (inr (inl too)) = one_bad_base format records index other why also bad too
one_bad_record read bases format place records index other why also (inr (inl bad)) (inr (inr missing)) = absurd (base_or_missing format place records index other why also bad missing)
one_bad_record read bases format place records index other why also (inr (inr missing)) (inl (d, those, lies_too, refused_too)) = absurd (none_missing read bases format records place other index why d those lies_too missing)
one_bad_record read bases format place records index other why also (inr (inr missing)) (inr (inl bad)) = absurd (base_or_missing format place records other index also why bad missing)
one_bad_record read bases format place records index other why also (inr (inr missing)) (inr (inr too)) = (missing.2 ∙ sym too.2, missing.3 ∙ sym too.3)

-- ---- two faults of the base

base_or_carried : AreBasesRead → (format : Format) (records : List (List ℕ)) (index number : ℕ) (why : RecordError) → IsBadBase format records index why → IsIllegalCarried format records number → ⊥
base_or_carried bases One records index number why bad carried = absurd bad
base_or_carried bases Two records index number why bad carried =
    let same : carried.0 ≡ bad.1 = same_Some carried.0 bad.1 (sym carried.1 ∙ bad.2) in
    base_err why carried.2.base (sym bad.3 ∙ ap base_at (sym same ∙ carried.2.spelling) ∙ bases carried.2.base carried.2.is)

carried_or_missing : (format : Format) (place : ℕ) (records : List (List ℕ)) (index number : ℕ) (why : RecordError) → IsIllegalCarried format records number → IsMissing place records index why → ⊥
carried_or_missing One place records index number why carried missing = absurd carried
carried_or_missing Two place records index number why carried missing = none-some carried.0 (subst (λ (r : List (List ℕ)). slice_get r 0 ≡ Some carried.0) missing.1 carried.1)

one_carried : AreBasesRead → (format : Format) (records : List (List ℕ)) (number other : ℕ) → IsIllegalCarried format records number → IsIllegalCarried format records other → number ≡ other
one_carried bases One records number other one two = absurd one
one_carried bases Two records number other one two =
    let same : one.0 ≡ two.0 = same_Some one.0 two.0 (sym one.1 ∙ two.1) in
    let base : one.2.base ≡ two.2.base = one_base bases one.2.base two.2.base two.0 one.2.is (sym same ∙ one.2.spelling) two.2.is two.2.spelling in
    same_Some number other (sym one.2.collides ∙ ap (λ (b : Base). collision_of b.carried) base ∙ two.2.collides)

-- ---- the first entry that is illegal

none_illegal_among : IsOrderlyAtEach → (c : Cut) (entries : List Entry) (number later : ℕ) (one : IsIllegalAmong c entries number) (other : IsIllegalAmong c entries later) → length one.before < length other.before → ⊥
none_illegal_among each c entries number later one other lt =
    let found = longer_front one.before other.before one.entry one.after (other.entry ∷ other.after) (sym one.parts ∙ other.parts) lt in
    let there : longer c other.before ≡ longer (longer c one.before) (one.entry ∷ found.0) =
    ap (λ (e : List Entry). longer c e) found.1 ∙ ap (λ (e : List Entry). record c { entries = e }) (sym (append_assoc c.entries one.before (one.entry ∷ found.0))) in
    one.illegal (each (longer c one.before) found.0 one.entry (subst IsJudged there other.judged))

one_illegal_among : IsOrderlyAtEach → (c : Cut) (entries : List Entry) (number other : ℕ) → IsIllegalAmong c entries number → IsIllegalAmong c entries other → number ≡ other
one_illegal_among each c entries number other one two = elim (cases_order (length one.before) (length two.before)) [
  | inl same ↦ omega (arith, one.at, two.at, same, length-append c.entries one.before, length-append c.entries two.before)
  | inr apart ↦ elim apart [
    | inl lt ↦ absurd (none_illegal_among each c entries number other one two lt)
    | inr lt ↦ absurd (none_illegal_among each c entries other number two one lt)
  ]
]

module _ (read : AreRead) (bases : AreBasesRead) (none : AreNoCollisions) (fronts : HasOrderlyFronts) (each : IsOrderlyAtEach) (format : Format) (records : List (List ℕ)) where
  -- an illegal entry comes behind an orderly cut
  orderly_so_far : (c : Cut) (bytes : List ℕ) (number : ℕ) → IsIllegalRecord format c bytes number → IsJudged c
  orderly_so_far c bytes number illegal = fronts c illegal.among.before illegal.among.judged

  none_illegal_before : (index later number : ℕ) (c d : Cut) (here bytes : List ℕ) → index < later → LiesAt format records index c here → IsIllegalRecord format c here number → LiesAt format records later d bytes → IsJudged d → ⊥
  none_illegal_before index later number c d here bytes lt lies illegal following orderly =
      orderly_not_illegal read bases none fronts each format 0 (take later records) number d following.before orderly (inl (index, c, here, lies_before format records index later c here lt lies, illegal))

  -- what the base before an orderly cut carries does not collide
  none_collide : (later number : ℕ) (d : Cut) (bytes : List ℕ) → LiesAt format records later d bytes → IsJudged d → IsIllegalCarried format records number → ⊥
  none_collide later number d bytes following orderly bad =
      orderly_not_illegal read bases none fronts each format 0 (take later records) number d following.before orderly (inr (carried_before format records later d bytes number following bad))

  one_illegal_place : (index place number other : ℕ) (c d : Cut) (bytes those : List ℕ) → LiesAt format records index c bytes → IsIllegalRecord format c bytes number → LiesAt format records place d those → IsIllegalRecord format d those other → number ≡ other
  one_illegal_place index place number other c d bytes those lies illegal lies_too illegal_too = elim (cases_order index place) [
    | inl same ↦
        let moved = same_cut_there read bases format records index c d bytes those lies (subst (λ (i : ℕ). LiesAt format records i d those) (sym same) lies_too) (λ (x : Cut) (b : List ℕ). IsIllegalRecord format x b other) illegal_too in
        let list : moved.entries ≡ illegal.entries = same_entries read format (next_number c) bytes moved.entries illegal.entries moved.is moved.spelling illegal.is illegal.spelling in
        one_illegal_among each c illegal.entries number other illegal.among (subst (λ (e : List Entry). IsIllegalAmong c e other) list moved.among)
    | inr apart ↦ elim apart [
      | inl lt ↦ absurd (none_illegal_before index place number c d bytes those lt lies illegal lies_too (orderly_so_far d those other illegal_too))
      | inr lt ↦ absurd (none_illegal_before place index other d c those bytes lt lies_too illegal_too lies (orderly_so_far c bytes number illegal))
    ]
  ]

  pub bad_not_illegal : (place index number : ℕ) (why : RecordError) → IsBadRecord format place records index why → IsIllegal format records number → ⊥
  bad_not_illegal place index number why (inl (c, bytes, lies, refused)) (inl (other, d, those, lies_too, illegal)) = elim (cases_order index other) [
    | inl same ↦
        let moved = same_cut_there read bases format records index c d bytes those lies (subst (λ (i : ℕ). LiesAt format records i d those) (sym same) lies_too) (λ (x : Cut) (b : List ℕ). IsIllegalRecord format x b number) illegal in
        no_record read format c bytes why moved.entries refused moved.is moved.spelling
    | inr apart ↦ elim apart [
      | inl lt ↦ none_bad_before read bases format records index other why c d bytes those lt lies refused lies_too
      | inr lt ↦ none_illegal_before other index number d c those bytes lt lies_too illegal lies refused.judged
    ]
  ]
  bad_not_illegal place index number why (inl (c, bytes, lies, refused)) (inr carried) = none_collide index number c bytes lies refused.judged carried
  bad_not_illegal place index number why (inr (inl bad)) (inl (other, d, those, lies, illegal)) = no_bad_base read bases format records other index why d those lies bad
  bad_not_illegal place index number why (inr (inl bad)) (inr carried) = base_or_carried bases format records index number why bad carried
  bad_not_illegal place index number why (inr (inr missing)) (inl (other, d, those, lies, illegal)) = none_missing read bases format records place other index why d those lies missing
  bad_not_illegal place index number why (inr (inr missing)) (inr carried) = carried_or_missing format place records index number why carried missing

  pub one_illegal : (number other : ℕ) → IsIllegal format records number → IsIllegal format records other → number ≡ other
  one_illegal number other (inl (index, c, bytes, lies, illegal)) (inl (place, d, those, lies_too, illegal_too)) = one_illegal_place index place number other c d bytes those lies illegal lies_too illegal_too
  one_illegal number other (inl (index, c, bytes, lies, illegal)) (inr carried) = absurd (none_collide index other c bytes lies (orderly_so_far c bytes number illegal) carried)
  one_illegal number other (inr carried) (inl (place, d, those, lies_too, illegal_too)) = absurd (none_collide place number d those lies_too (orderly_so_far d those other illegal_too) carried)
  one_illegal number other (inr carried) (inr too) = one_carried bases format records number other carried too

-- ---- the bytes of a log

-- from a place on bytes spell one list of records
abbrev pub SpellOneList : Type 0
SpellOneList = (place : ℕ) (bytes magic : List ℕ) (stamp other : Stamp) (records others : List (List ℕ)) → SpellsAt place bytes magic stamp records → SpellsAt place bytes magic other others → records ≡ others

-- records that are some they spell in one version
abbrev pub SpellOneFormat : Type 0
SpellOneFormat = (place : ℕ) (bytes magic : List ℕ) (stamp other : Stamp) (records others : List (List ℕ)) → records ≢ [] → SpellsAt place bytes magic stamp records → SpellsAt place bytes magic other others → stamp.format ≡ other.format

-- bytes that spell records have none that is cut
abbrev pub AreSpelledOrCut : Type 0
AreSpelledOrCut = (place : ℕ) (bytes magic : List ℕ) (newest : Format) (stamp : Stamp) (index : ℕ) (records : List (List ℕ)) → SpellsAt place bytes magic stamp records → IsCut magic newest index (drop place bytes) → ⊥

abbrev pub AreCutOnce : Type 0
AreCutOnce = (bytes magic : List ℕ) (newest : Format) (index other : ℕ) → IsCut magic newest index bytes → IsCut magic newest other bytes → index ≡ other

-- Two readings of the same bytes: their records are the same, and so is their version where there are some.
record AreSame (format also : Format) (records others : List (List ℕ)) : Type 0 where
  list : others ≡ records
  version : (format ≡ also) ⊎ (records ≡ [])

same_reading : SpellOneList → SpellOneFormat → (place : ℕ) (bytes : List ℕ) (format also : Format) (id other : ℕ) (records others : List (List ℕ)) → SpellsAt place bytes MAGIC (stamped format id) records → SpellsAt place bytes MAGIC (stamped also other) others
    → AreSame format also records others
same_reading lists formats place bytes format also id other [] others one two = record { list = lists place bytes MAGIC (stamped also other) (stamped format id) others [] two one; version = inr refl }
same_reading lists formats place bytes format also id other (r ∷ records) others one two = record {
  list = lists place bytes MAGIC (stamped also other) (stamped format id) others (r ∷ records) two one;
  version = inl (formats place bytes MAGIC (stamped format id) (stamped also other) (r ∷ records) others (λ e. cc e) one two);
}

-- no records are the same in both versions
cut_in_both : (format also : Format) (place : ℕ) (c : Cut) → AreCut also place [] c → AreCut format place [] c
cut_in_both One One place c spelled = spelled
cut_in_both Two Two place c spelled = spelled
cut_in_both One Two place c spelled = (ap (λ (x : Cut). x.base) spelled.1, ap (λ (x : Cut). x.carried) spelled.1, ap (λ (x : Cut). x.entries) spelled.1, inl spelled.0)
cut_in_both Two One place c (none, nothing, are, at) = (elim at [ inl here ↦ here | inr some ↦ absurd (some refl) ], λ i. record { base = none i; carried = nothing i; entries = are i })

bad_in_both : (format also : Format) (place index : ℕ) (why : RecordError) → IsBadRecord also place [] index why → IsBadRecord format place [] index why
bad_in_both format also place index why (inl (c, bytes, lies, refused)) = absurd (none-some bytes lies.there)
bad_in_both format One place index why (inr (inl bad)) = absurd bad
bad_in_both format Two place index why (inr (inl bad)) = absurd (none-some bad.1 bad.2)
bad_in_both format also place index why (inr (inr missing)) = inr (inr missing)

none_illegal : (also : Format) (number : ℕ) → IsIllegal also [] number → ⊥
none_illegal also number (inl (index, c, bytes, lies, illegal)) = none-some bytes lies.there
none_illegal One number (inr carried) = carried
none_illegal Two number (inr carried) = none-some carried.0 carried.1

-- what is said of the one is so of the other
module _ (format also : Format) (records others : List (List ℕ)) (same : AreSame format also records others) where
  cut_too : (place : ℕ) (c : Cut) → AreCut also place others c → AreCut format place records c
  cut_too place c are =
      let here : AreCut also place records c = subst (λ (rs : List (List ℕ)). AreCut also place rs c) same.list are in
      elim same.version [
        | inl version ↦ subst (λ (f : Format). AreCut f place records c) (sym version) here
        | inr none ↦ subst (λ (rs : List (List ℕ)). AreCut format place rs c) (sym none) (cut_in_both format also place c (subst (λ (rs : List (List ℕ)). AreCut also place rs c) none here))
      ]

  bad_too : (place index : ℕ) (why : RecordError) → IsBadRecord also place others index why → IsBadRecord format place records index why
  bad_too place index why bad =
      let here : IsBadRecord also place records index why = subst (λ (rs : List (List ℕ)). IsBadRecord also place rs index why) same.list bad in
      elim same.version [
        | inl version ↦ subst (λ (f : Format). IsBadRecord f place records index why) (sym version) here
        | inr none ↦ subst (λ (rs : List (List ℕ)). IsBadRecord format place rs index why) (sym none) (bad_in_both format also place index why (subst (λ (rs : List (List ℕ)). IsBadRecord also place rs index why) none here))
      ]

  illegal_too : (number : ℕ) → IsIllegal also others number → IsIllegal format records number
  illegal_too number illegal =
      let here : IsIllegal also records number = subst (λ (rs : List (List ℕ)). IsIllegal also rs number) same.list illegal in
      elim same.version [
        | inl version ↦ subst (λ (f : Format). IsIllegal f records number) (sym version) here
        | inr none ↦ absurd (none_illegal also number (subst (λ (rs : List (List ℕ)). IsIllegal also rs number) none here))
      ]

pub one_log : SpellOneList → SpellOneFormat → AreRead → AreBasesRead → (place : ℕ) (bytes : List ℕ) (id other : ℕ) (c d : Cut) → IsLogAt id place c bytes → IsLogAt other place d bytes → c ≡ d
one_log lists formats read bases place bytes id other c d (format, records, up, spells, cut) (also, others, up_too, spells_too, those) =
    let same = same_reading lists formats place bytes format also id other records others spells spells_too in
    one_cut (one_entries read) bases format place records c d cut (cut_too format also records others same place d those)

pub one_bad_log : SpellOneList → SpellOneFormat → AreSpelledOrCut → AreCutOnce → AreRead → AreBasesRead → (place : ℕ) (bytes : List ℕ) (index other : ℕ) (why also : RecordError) → IsBadLog place bytes index why → IsBadLog place bytes other also → (index ≡ other) × (why ≡ also)
one_bad_log lists formats whole cuts read bases place bytes index other why also (inl one) (inl two) = (cuts (drop place bytes) MAGIC NEWEST index other one.0 two.0, one.1 ∙ sym two.1)
one_bad_log lists formats whole cuts read bases place bytes index other why also (inl one) (inr two) = absurd (whole place bytes MAGIC NEWEST (stamped two.0 two.3.0) index two.1 two.3.1 one.0)
one_bad_log lists formats whole cuts read bases place bytes index other why also (inr one) (inl two) = absurd (whole place bytes MAGIC NEWEST (stamped one.0 one.3.0) other one.1 one.3.1 two.0)
one_bad_log lists formats whole cuts read bases place bytes index other why also (inr one) (inr two) =
    let same = same_reading lists formats place bytes one.0 two.0 one.3.0 two.3.0 one.1 two.1 one.3.1 two.3.1 in
    one_bad_record read bases one.0 place one.1 index other why also one.4 (bad_too one.0 two.0 one.1 two.1 same place other also two.4)

pub one_illegal_log : SpellOneList → SpellOneFormat → AreRead → AreBasesRead → AreNoCollisions → HasOrderlyFronts → IsOrderlyAtEach → (place : ℕ) (bytes : List ℕ) (number other : ℕ) → IsIllegalLog place bytes number → IsIllegalLog place bytes other → number ≡ other
one_illegal_log lists formats read bases none fronts each place bytes number other one two =
    let same = same_reading lists formats place bytes one.0 two.0 one.3.0 two.3.0 one.1 two.1 one.3.1 two.3.1 in
    one_illegal read bases none fronts each one.0 one.1 number other one.4 (illegal_too one.0 two.0 one.1 two.1 same other two.4)

pub log_not_bad : SpellOneList → SpellOneFormat → AreSpelledOrCut → AreRead → AreBasesRead → (place : ℕ) (bytes : List ℕ) (id index : ℕ) (c : Cut) (why : RecordError) → IsLogAt id place c bytes → IsBadLog place bytes index why → ⊥
log_not_bad lists formats whole read bases place bytes id index c why (format, records, up, spells, cut) (inl bad) = whole place bytes MAGIC NEWEST (stamped format id) index records spells bad.0
log_not_bad lists formats whole read bases place bytes id index c why (format, records, up, spells, cut) (inr bad) =
    let same = same_reading lists formats place bytes format bad.0 id bad.3.0 records bad.1 spells bad.3.1 in
    cut_not_bad read bases format place records index why c cut (bad_too format bad.0 records bad.1 same place index why bad.4)

pub log_not_illegal : SpellOneList → SpellOneFormat → AreRead → AreBasesRead → AreNoCollisions → HasOrderlyFronts → IsOrderlyAtEach → (place : ℕ) (bytes : List ℕ) (id number : ℕ) (c : Cut) → IsLogAt id place c bytes → IsJudged c → IsIllegalLog place bytes number → ⊥
log_not_illegal lists formats read bases none fronts each place bytes id number c (format, records, up, spells, cut) orderly bad =
    let same = same_reading lists formats place bytes format bad.0 id bad.3.0 records bad.1 spells bad.3.1 in
    orderly_not_illegal read bases none fronts each format place records number c cut orderly (illegal_too format bad.0 records bad.1 same number bad.4)

pub bad_log_not_illegal : SpellOneList → SpellOneFormat → AreSpelledOrCut → AreRead → AreBasesRead → AreNoCollisions → HasOrderlyFronts → IsOrderlyAtEach → (place : ℕ) (bytes : List ℕ) (index number : ℕ) (why : RecordError) → IsBadLog place bytes index why → IsIllegalLog place bytes number → ⊥
bad_log_not_illegal lists formats whole read bases none fronts each place bytes index number why (inl bad) illegal = whole place bytes MAGIC NEWEST (stamped illegal.0 illegal.3.0) index illegal.1 illegal.3.1 bad.0
bad_log_not_illegal lists formats whole read bases none fronts each place bytes index number why (inr bad) illegal =
    let same = same_reading lists formats place bytes illegal.0 bad.0 illegal.3.0 bad.3.0 illegal.1 bad.1 illegal.3.1 bad.3.1 in
    bad_not_illegal read bases none fronts each illegal.0 illegal.1 place index number why (bad_too illegal.0 bad.0 illegal.1 bad.1 same place index why bad.4) illegal.4

pub bad_head_not_bad_log : ((place : ℕ) (bytes magic : List ℕ) (newest : Format) (stamp : Stamp) (records : List (List ℕ)) → length magic ≡ 4 → IsUpTo newest stamp.format → SpellsAt place bytes magic stamp records → IsBadHeadAt place magic newest bytes → ⊥)
    → ((place : ℕ) (bytes magic : List ℕ) (newest : Format) (index : ℕ) → length magic ≡ 4 → IsCut magic newest index (drop place bytes) → IsBadHeadAt place magic newest bytes → ⊥)
    → (place : ℕ) (bytes : List ℕ) (index : ℕ) (why : RecordError) → IsBadHeadAt place MAGIC NEWEST bytes → IsBadLog place bytes index why → ⊥
bad_head_not_bad_log spelled cut place bytes index why bad (inl log) = cut place bytes MAGIC NEWEST index refl log.0 bad
bad_head_not_bad_log spelled cut place bytes index why bad (inr log) = spelled place bytes MAGIC NEWEST (stamped log.0 log.3.0) log.1 refl log.2 log.3.1 bad
