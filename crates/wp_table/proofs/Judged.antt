-- Judging bytes is reading them, without keeping the versions.
use Rattle.std.proofs.Common.{◌≡◌, ℕ, zero, suc, ◌-◌, min, Bool, true, false, eqb, List, [], ◌∷◌, ◌++◌, length, Option, Some, None, Result, Ok, Err, refl, sym, ap, ◌∙◌}
use Rattle.std.specs.Prelude.{IfOk}
use Rattle.std.specs.Global.{Vec}
use Rattle.std.specs.Int.{w16}
use Rattle.wp_model.specs.declared.version.Version.{Version}
use Rattle.wp_fields.specs.declared.format.Format.{Format}
use Rattle.wp_fields.specs.Reading.{◌>>=◌, number_at, Gives}
use Rattle.wp_fields.proofs.Results.{bind_ok, ok_is, err_is}
use Rattle.wp_fields.proofs.FieldLemmas.{AreBytes}
use Rattle.wp_table.specs.declared.layout.TheConstants.{BLOCK}
use Rattle.wp_table.specs.declared.error.TableError.{TableError}
use Rattle.wp_table.specs.declared.error.TableError.TheVariants.{Short, Count, Extra}
use Rattle.wp_table.specs.Errors.{table_fault}
use Rattle.wp_table.specs.Table.{block_count, blocks_of, places_from, table_bytes, IsTableIn}
use Rattle.wp_table.specs.Reading.{if_right, head_at, next_version_at, versions_after, block_after, blocks_after, after_place, after_places, table_at, last_of}
use Rattle.wp_table.specs.Judging.{last_after, last_of_block, places_after, table_judged}
use Rattle.wp_table.specs.Walk.{stored_versions, IsIndexed}
use Rattle.wp_table.proofs.Order.{last_push}
use Rattle.wp_table.proofs.Parts.{was_right}
use Rattle.wp_table.proofs.BlockLemmas.{Found}
use Rattle.wp_table.proofs.Loop.{fails_as_well}
use Rattle.wp_table.proofs.WalkLemmas.{stored_is}
use Rattle.wp_table.proofs.Whole.{at_end, places_to_end, blocks_read_there, head_again, table_takes_in}

-- ---- what was read, seen in another way

abbrev pub mapped : {X Y : Type 0} → (X → Y) → Result X TableError → Result Y TableError
mapped f (Ok x) = Ok (f x)
mapped f (Err fault) = Err fault

mapped_ok : {X Y : Type 0} (f : X → Y) (r : Result X TableError) (y : Y) → mapped f r ≡ Ok y → (x : X) × (r ≡ Ok x) × (f x ≡ y)
mapped_ok f (Ok x) y e = (x, refl, ok_is {E = TableError} (f x) y e)
mapped_ok f (Err fault) y e = absurd cc

mapped_err : {X Y : Type 0} (f : X → Y) (r : Result X TableError) (fault : TableError) → mapped f r ≡ Err fault → r ≡ Err fault
mapped_err f (Ok x) fault e = absurd cc
mapped_err {X} {Y} f (Err other) fault e = ap (λ (d : TableError). Err d) (err_is {A = Y} other fault e)

-- two ways to go on, which are seen alike
bind_alike : {X Y Z : Type 0} (r : Result X TableError) (f : X → Result Z TableError) (g : X → Result Y TableError) (view : Y → Z) → ((x : X) → f x ≡ mapped view (g x)) → (r >>= f) ≡ mapped view (r >>= g)
bind_alike (Ok x) f g view each = each x
bind_alike (Err fault) f g view each = refl

-- what was read is seen alike, and so is what is read behind it
along : {A B C X Y Z : Type 0} (r : Result A TableError) (s : Result B TableError) (u : A → C) (v : B → C) (f : A → Result X TableError) (g : B → Result Y TableError) (x : X → Z) (y : Y → Z)
    → mapped u r ≡ mapped v s → ((a : A) (b : B) → u a ≡ v b → mapped x (f a) ≡ mapped y (g b)) → mapped x (r >>= f) ≡ mapped y (s >>= g)
along (Ok a) (Ok b) u v f g x y same each = each a b (ok_is {E = TableError} (u a) (v b) same)
along (Ok a) (Err fault) u v f g x y same each = absurd cc
along (Err fault) (Ok b) u v f g x y same each = absurd cc
along {C = C} (Err fault) (Err other) u v f g x y same each = ap (λ (d : TableError). Err d) (err_is {A = C} fault other same)

-- ---- versions

abbrev last_seen : List Version × List ℕ → Option Version × List ℕ
last_seen x = (last_of x.0, x.1)

last_after_is : (format : Format) (count flushed : ℕ) (before : List Version) (bytes : List ℕ) → last_after format count flushed (last_of before) bytes ≡ mapped last_seen (versions_after format count flushed before bytes)
unfolding last_after versions_after
last_after_is format zero flushed before bytes = refl
last_after_is format (suc count) flushed before bytes =
    bind_alike (next_version_at format flushed (last_of before) bytes) (λ version. last_after format count flushed (Some version.0) version.1) (λ version. versions_after format count flushed (before ++ version.0 ∷ []) version.1) last_seen
    (λ version. ap (λ (last : Option Version). last_after format count flushed last version.1) (sym (last_push before version.0)) ∙ last_after_is format count flushed (before ++ version.0 ∷ []) version.1)

-- ---- blocks

last_of_block_is : (format : Format) (count flushed : ℕ) (before : List Version) (bytes : List ℕ) → last_of_block format count flushed (last_of before) bytes ≡ mapped last_seen (block_after format count flushed before bytes)
unfolding last_of_block block_after
last_of_block_is format count flushed before bytes =
    bind_alike (number_at Short w16 bytes) (λ found. if_right (eqb found.0 count) Count found.1 >>= last_after format count flushed (last_of before)) (λ found. if_right (eqb found.0 count) Count found.1 >>= versions_after format count flushed before) last_seen
    (λ found. bind_alike (if_right (eqb found.0 count) Count found.1) (last_after format count flushed (last_of before)) (versions_after format count flushed before) last_seen (last_after_is format count flushed before))

-- the places with the one where the blocks end
abbrev with_end : ℕ → List ℕ × List ℕ → List ℕ × List ℕ
with_end size x = (x.0 ++ (size - length x.1) ∷ [], x.1)

abbrev places_found : Found → List ℕ × List ℕ
places_found x = (x.0.1, x.1)

mapped_same : {X : Type 0} (r : Result X TableError) → mapped (λ x. x) r ≡ r
mapped_same (Ok x) = refl
mapped_same (Err fault) = refl

places_after_is : (format : Format) (blocks size flushed left : ℕ) (before : List Version) (places bytes : List ℕ) → mapped (with_end size) (places_after format blocks size flushed left (last_of before) places bytes) ≡ mapped places_found (blocks_after format blocks size flushed left before places bytes)
unfolding places_after blocks_after
places_after_is format zero size flushed left before places bytes = refl
places_after_is format (suc blocks) size flushed left before places bytes =
    let more = places ++ (size - length bytes) ∷ [] in
    let block = block_after format (min left BLOCK) flushed before bytes in
    along (last_of_block format (min left BLOCK) flushed (last_of before) bytes) block (λ x. x) last_seen
    (λ x. places_after format blocks size flushed (left - min left BLOCK) x.0 more x.1) (λ x. blocks_after format blocks size flushed (left - min left BLOCK) x.0 more x.1) (with_end size) places_found
    (mapped_same (last_of_block format (min left BLOCK) flushed (last_of before) bytes) ∙ last_of_block_is format (min left BLOCK) flushed before bytes)
    (λ a b same. ap (λ (x : Option Version × List ℕ). mapped (with_end size) (places_after format blocks size flushed (left - min left BLOCK) x.0 more x.1)) same ∙ places_after_is format blocks size flushed (left - min left BLOCK) b.0 more b.1)

-- ---- the index and the end

bind_last : {X : Type 0} (r : Result X TableError) → (r >>= λ x. Ok x) ≡ r
bind_last (Ok x) = refl
bind_last (Err fault) = refl

bind_then : {X Y Z : Type 0} (r : Result X TableError) (f : X → Result Y TableError) (g : Y → Result Z TableError) → (r >>= λ x. f x >>= g) ≡ ((r >>= f) >>= g)
bind_then (Ok x) f g = refl
bind_then (Err fault) f g = refl

bind_same : {X Y : Type 0} (r : Result X TableError) (f g : X → Result Y TableError) → ((x : X) → f x ≡ g x) → (r >>= f) ≡ (r >>= g)
bind_same (Ok x) f g each = each x
bind_same (Err fault) f g each = refl

end_last : (places : List ℕ) (end : ℕ) (bytes : List ℕ) → after_places (places ++ end ∷ []) bytes ≡ (after_places places bytes >>= after_place end)
unfolding after_places
end_last [] end bytes = bind_last (after_place end bytes)
end_last (place ∷ places) end bytes =
    bind_same (after_place place bytes) (after_places (places ++ end ∷ [])) (λ rest. after_places places rest >>= after_place end) (end_last places end) ∙ bind_then (after_place place bytes) (after_places places) (after_place end)

-- ---- all of the bytes

abbrev Nothing : Type 0
Nothing = Unit {0}

abbrev done : {X : Type 0} → X → Nothing
done x = tt

abbrev Layout : Type 0
Layout = Format × ℕ × List ℕ

abbrev index_to_end : ℕ → Format × ℕ → List ℕ × List ℕ → Result Layout TableError
index_to_end size head places = after_places places.0 places.1 >>= λ rest. after_place (size - length places.1) rest >>= λ rest. if_right (eqb (length rest) 0) Extra (head.0, head.1, places.0)

right_alike : {X Y : Type 0} (right : Bool) (fault : TableError) (x : X) (y : Y) → mapped done (if_right right fault x) ≡ mapped done (if_right right fault y)
right_alike true fault x y = refl
right_alike false fault x y = refl

index_alike : (size : ℕ) (head : Format × ℕ) (p : List ℕ × List ℕ) (b : Found) → with_end size p ≡ places_found b → mapped done (index_to_end size head p) ≡ mapped done (places_to_end b)
index_alike size head p b same =
    let end = size - length p.1 in
    let layout : Layout = (head.0, head.1, p.0) in
    let whole : places_to_end b ≡ ((after_places p.0 p.1 >>= after_place end) >>= at_end b) =
    ap (λ (x : List ℕ × List ℕ). after_places x.0 x.1 >>= at_end b) (sym same) ∙ ap (λ r. r >>= at_end b) (end_last p.0 end p.1) in
    ap (mapped done) (bind_then (after_places p.0 p.1) (after_place end) (λ rest. if_right (eqb (length rest) 0) Extra layout))
    ∙ along (after_places p.0 p.1 >>= after_place end) (after_places p.0 p.1 >>= after_place end) (λ rest. rest) (λ rest. rest) (λ rest. if_right (eqb (length rest) 0) Extra layout) (at_end b) done done refl
    (λ one other is. ap (λ (rest : List ℕ). mapped {X = Layout} done (if_right (eqb (length rest) 0) Extra layout)) is ∙ right_alike (eqb (length other) 0) Extra layout b.0.0)
    ∙ ap (mapped done) (sym whole)

abbrev judged_behind : ℕ → ℕ → (Format × ℕ) × List ℕ → Result Layout TableError
judged_behind size flushed head = places_after head.0.0 (block_count head.0.1) size flushed head.0.1 None [] head.1 >>= index_to_end size head.0

abbrev read_behind : ℕ → ℕ → (Format × ℕ) × List ℕ → Result (List Version) TableError
read_behind size flushed head = blocks_after head.0.0 (block_count head.0.1) size flushed head.0.1 [] [] head.1 >>= places_to_end

judged_alike : (id flushed : ℕ) (bytes : List ℕ) → mapped done (table_judged id flushed bytes) ≡ mapped done (table_at id flushed bytes)
unfolding table_judged table_at
judged_alike id flushed bytes =
    let size = length bytes in
    along (head_at id bytes) (head_at id bytes) (λ c. c) (λ c. c) (judged_behind size flushed) (read_behind size flushed) done done refl
    (λ one other is. ap (λ (c : (Format × ℕ) × List ℕ). mapped done (judged_behind size flushed c)) is
    ∙ along (places_after other.0.0 (block_count other.0.1) size flushed other.0.1 None [] other.1) (blocks_after other.0.0 (block_count other.0.1) size flushed other.0.1 [] [] other.1) (with_end size) places_found (index_to_end size other.0) places_to_end done done
    (places_after_is other.0.0 (block_count other.0.1) size flushed other.0.1 [] [] other.1) (index_alike size other.0))

pub judged_refused : (id flushed : ℕ) (bytes : List ℕ) (fault : TableError) → table_judged id flushed bytes ≡ Err fault → table_at id flushed bytes ≡ Err fault
judged_refused id flushed bytes fault e = mapped_err done (table_at id flushed bytes) fault (sym (judged_alike id flushed bytes) ∙ ap (mapped done) e)

-- bytes that were judged are read as these versions
record Judges (id flushed : ℕ) (bytes : List ℕ) (x : Layout) : Type 0 where
  versions : List Version
  read : table_at id flushed bytes ≡ Ok versions
  is : IsTableIn x.0 id flushed versions
  parts : bytes ≡ table_bytes x.0 id versions
  counted : x.1 ≡ length versions
  end : ℕ
  placed : x.2 ++ end ∷ [] ≡ places_from x.0 25 (blocks_of versions)

blocks_then_end : (id flushed : ℕ) (bytes : List ℕ) (c : (Format × ℕ) × List ℕ) (b : Found) → head_at id bytes ≡ Ok c → blocks_after c.0.0 (block_count c.0.1) (length bytes) flushed c.0.1 [] [] c.1 ≡ Ok b → table_at id flushed bytes ≡ places_to_end b
unfolding table_at
blocks_then_end id flushed bytes c b head blocks = rw (head, blocks) refl

judged_takes : (id flushed : ℕ) (bytes : List ℕ) (x : Layout) → AreBytes bytes → table_judged id flushed bytes ≡ Ok x → Judges id flushed bytes x
unfolding table_judged table_at
judged_takes id flushed bytes x h e =
    let size = length bytes in
    let whole = mapped_ok done (table_at id flushed bytes) tt (sym (judged_alike id flushed bytes) ∙ ap (mapped done) e) in
    let versions = whole.0 in
    let c = bind_ok (head_at id bytes) (judged_behind size flushed) x e in
    let format = c.0.0.0 in
    let count = c.0.0.1 in
    let p = bind_ok (places_after format (block_count count) size flushed count None [] c.0.1) (index_to_end size c.0.0) x c.2 in
    let layout : Layout = (format, count, p.0.0) in
    let i = bind_ok (after_places p.0.0 p.0.1) (λ rest. after_place (size - length p.0.1) rest >>= λ rest. if_right (eqb (length rest) 0) Extra layout) x p.2 in
    let l = bind_ok (after_place (size - length p.0.1) i.0) (λ rest. if_right (eqb (length rest) 0) Extra layout) x i.2 in
    let given : layout ≡ x = (was_right (eqb (length l.0) 0) Extra layout x l.2).1 in
    let b = mapped_ok places_found (blocks_after format (block_count count) size flushed count [] [] c.0.1) (with_end size p.0) (sym (places_after_is format (block_count count) size flushed count [] [] c.0.1) ∙ ap (mapped (with_end size)) p.1) in
    let blocks = blocks_read_there id flushed bytes c.0 b.0 h c.1 b.1 in
    let then = blocks_then_end id flushed bytes c.0 b.0 c.1 b.1 in
    let r = bind_ok (after_places b.0.0.1 b.0.1) (at_end b.0) versions (sym then ∙ whole.1) in
    let same : b.0.0.0 ≡ versions = (was_right (eqb (length r.0) 0) Extra b.0.0.0 versions r.2).1 in
    let head = blocks.has.head in
    let counted : count ≡ length b.0.0.0 = ap (λ (y : (Format × ℕ) × List ℕ). y.0.1) (ok_is {E = TableError} c.0 _ (sym c.1 ∙ ap (head_at id) head.parts ∙ head_again format id (length b.0.0.0) _ head.id_fits head.some head.count_fits)) in
    let table = table_takes_in id flushed bytes versions c.0 b.0 h c.1 b.1 (sym then ∙ whole.1) in
    let found : Judges id flushed bytes layout = record {
      versions = versions;
      read = whole.1;
      is = table.0;
      parts = table.1;
      counted = counted ∙ ap length same;
      end = size - length p.0.1;
      placed = ap (λ (y : List ℕ × List ℕ). y.0) (sym b.2) ∙ blocks.placed ∙ ap (λ (vs : List Version). places_from format 25 (blocks_of vs)) same;
    } in
    rw (← given) found

-- ---- what a call gave

abbrev Judged : Type 0
Judged = Result (Format × ℕ × Vec ℕ) TableError

pub judged_exact : (id flushed : ℕ) (bytes : List ℕ) (result : Judged) → AreBytes bytes → Gives table_fault (λ read. (read.0, read.1, read.2.items)) result (table_judged id flushed bytes) → Gives table_fault (λ read. stored_versions read.0 bytes read.1) result (table_at id flushed bytes)
judged_exact id flushed bytes (Ok read) h is =
    let judges = judged_takes id flushed bytes (read.0, read.1, read.2.items) h is in
    judges.read ∙ ap (λ (vs : List Version). Ok vs) (sym (ap (stored_versions read.0 bytes) judges.counted ∙ ap (λ (bs : List ℕ). stored_versions read.0 bs (length judges.versions)) judges.parts ∙ stored_is read.0 id flushed judges.versions judges.is))
judged_exact id flushed bytes (Err error) h is = fails_as_well error (table_judged id flushed bytes) (table_at id flushed bytes) is (λ e. judged_refused id flushed bytes error e)

pub judged_indexed : (id flushed : ℕ) (bytes : List ℕ) (result : Judged) → AreBytes bytes → Gives table_fault (λ read. (read.0, read.1, read.2.items)) result (table_judged id flushed bytes) → IfOk result (λ read. IsIndexed read.0 bytes read.1 read.2.items)
judged_indexed id flushed bytes (Ok read) h is =
    let judges = judged_takes id flushed bytes (read.0, read.1, read.2.items) h is in
    record { id = id; flushed = flushed; versions = judges.versions; end = judges.end; is = judges.is; parts = judges.parts; counted = judges.counted; placed = judges.placed }
judged_indexed id flushed bytes (Err error) h is = tt
