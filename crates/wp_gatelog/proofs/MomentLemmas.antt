-- The moments of one change and its sync, and the images that they leave.
use Rattle.std.proofs.Common.{◌≡◌, inl, inr, ℕ, zero, suc, ◌+◌, ◌≤◌, max, List, [], ◌∷◌, ◌++◌, map, length, take, drop, Option, None, Some, Result, Ok, Err, OnOk, OnErr, refl, sym, ◌∙◌, ap, subst, arith, length-append, length-drop, length-take}
use Rattle.std.proofs.lemmas.List.{append-nil, drop_all, take-map, take_at}
use Rattle.wp_outside.specs.Disk.{Moment, Matches, IsImage, synced, put, hide, hide_at, after_write, after_cut, after_sync, IfKnown, added, Tears, Each, Passes, images, Goes}
use Rattle.wp_outside.specs.Images.{matches_itself}
use Rattle.wp_outside.proofs.Moments.{image_of_synced}
use Rattle.wp_gatelog.specs.Moments.{Leaves}

-- ---- moments, one after another

each_map : (P Q : Moment → Type 0) → ((m : Moment) → P m → Q m) → (ms : List Moment) → Each P ms → Each Q ms
each_map P Q f [] each = tt
each_map P Q f (m ∷ ms) each = (f m each.0, each_map P Q f ms each.1)

pub goes_map : (P Q : Moment → Type 0) → ((m : Moment) → P m → Q m) → (old new : List Moment) → Goes P old new → Goes Q old new
goes_map P Q f [] new goes = goes
goes_map P Q f (m ∷ past) new goes = (goes.0, goes.1, each_map P Q f goes.0 goes.2)

-- what is so of all that a crash left before, and at each moment since, is so of what it leaves now
pub left_now : (P : List ℕ → Type 0) (old new : List Moment) → ((image : List ℕ) → images old image → P image) → Passes (Leaves P) old new → (image : List ℕ) → images new image → P image
left_now P old new before passes = from passes.0 passes.1 passes.2
  where
    from : (more : List Moment) → new ≡ more ++ old → Each (Leaves P) more → (image : List ℕ) → images new image → P image
    from [] is each image h = before image (subst (λ (ms : List Moment). images ms image) is h)
    from (m ∷ more) is each image h = each.0 image (subst (λ (ms : List Moment). images ms image) is h)

-- ---- a disk that is known

pub known_map : (P Q : Moment → Type 0) → ((m : Moment) → P m → Q m) → (ms : List Moment) → IfKnown ms P → IfKnown ms Q
known_map P Q f [] known = tt
known_map P Q f (m ∷ past) known = f m known

pub known_both : (P Q R : Moment → Type 0) → ((m : Moment) → P m → Q m → R m) → (ms : List Moment) → IfKnown ms P → IfKnown ms Q → IfKnown ms R
known_both P Q R f [] p q = tt
known_both P Q R f (m ∷ past) p q = f m p q

pub known_as : (ms : List Moment) (x y : List ℕ) → x ≡ y → IfKnown ms (λ m. m ≡ synced x) → IfKnown ms (λ m. m ≡ synced y)
known_as ms x y is known = subst (λ (z : List ℕ). IfKnown ms (λ m. m ≡ synced z)) is known

-- ---- bytes of which all are sure

-- an image begins with what is sure, and its rest matches the rest
pub matches_front : (xs : List ℕ) (sure : List (Option ℕ)) (c : List ℕ) → Matches (map (λ b. Some b) xs ++ sure) c → (d : List ℕ) × (c ≡ xs ++ d) × Matches sure d
matches_front [] sure c h = (c, refl, h)
matches_front (x ∷ xs) sure [] h = absurd h
matches_front (x ∷ xs) sure (b ∷ c) h =
    let rest = matches_front xs sure c h.1 in
    (rest.0, (λ i. h.0 i ∷ rest.1 i), rest.2)

hide_front : (bytes old : List ℕ) → Matches (hide (length bytes) (map (λ b. Some b) old)) (bytes ++ drop (length bytes) old)
hide_front [] old = matches_itself old
hide_front (b ∷ bytes) [] = tt
hide_front (b ∷ bytes) (x ∷ old) = hide_front bytes old

hide_put : (at : ℕ) (bytes old : List ℕ) → Matches (hide_at at (length bytes) (map (λ b. Some b) old)) (put at bytes old)
hide_put zero bytes old = hide_front bytes old
hide_put (suc at) bytes [] = tt
hide_put (suc at) bytes (x ∷ old) = (refl, hide_put at bytes old)

length-put : (at : ℕ) (bytes old : List ℕ) → length (put at bytes old) ≤ max (length old) (at + length bytes)
length-put zero bytes old = omega (arith, length-append bytes (drop (length bytes) old), length-drop (length bytes) old)
length-put (suc at) bytes [] = omega (arith, length-put at bytes [])
length-put (suc at) bytes (x ∷ old) = omega (arith, length-put at bytes old)

-- what a read gives after a write or a cut is one of the images
pub write_reads_image : (at : ℕ) (bytes before : List ℕ) → IsImage (after_write at bytes (synced before)) (after_write at bytes (synced before)).reads
write_reads_image at [] before = (matches_itself before, omega arith)
write_reads_image at (b ∷ bytes) before = (hide_put at (b ∷ bytes) before, length-put at (b ∷ bytes) before)

pub cut_reads_image : (len : ℕ) (before : List ℕ) → IsImage (after_cut len (synced before)) (after_cut len (synced before)).reads
cut_reads_image len before =
    (subst (λ (s : List (Option ℕ)). Matches s (take len before)) (sym (take-map (λ b. Some b) len before)) (matches_itself (take len before)), omega (arith, length-take len before))

-- ---- one step and its sync, from a disk that has all of its bytes for good

module _ (step : Moment → Moment) (before : List ℕ) where
  within_step : (m : Moment) → m ≡ synced before → Leaves (IsImage (step (synced before))) (step m)
  within_step m is image h = subst (λ (n : Moment). IsImage (step n) image) is h

  pub torn_goes : (old new : List Moment) → IfKnown old (λ m. m ≡ synced before) → Tears step old new → Goes (Leaves (IsImage (step (synced before)))) old new
  torn_goes [] new known torn = elim torn [ inl same ↦ same | inr w ↦ w.1 ]
  torn_goes (m ∷ past) new known torn = elim torn [
    | inl same ↦ ([], same, tt)
    | inr w ↦ (record (step m) { reads = w.0 } ∷ [], w.1, (λ image h. within_step m known image h, tt))
  ]

  step_goes : (old new : List Moment) → IfKnown old (λ m. m ≡ synced before) → new ≡ added step old → Goes (Leaves (IsImage (step (synced before)))) old new
  step_goes [] new known adds = adds
  step_goes (m ∷ past) new known adds = (step m ∷ [], adds, (within_step m known, tt))

  -- the step was made, and then a sync, or not
  pub synced_goes : {T E : Type 0} (old mid new : List Moment) (result : Result T E) → IsImage (step (synced before)) (step (synced before)).reads → IfKnown old (λ m. m ≡ synced before) → mid ≡ added step old → OnOk result (new ≡ added after_sync mid) → OnErr result (new ≡ mid) → Goes (Leaves (IsImage (step (synced before)))) old new
  synced_goes [] mid new (Ok x) reads known adds syncs stays = subst (λ (l : List Moment). new ≡ added after_sync l) adds syncs
  synced_goes [] mid new (Err e) reads known adds syncs stays = stays ∙ adds
  synced_goes (m ∷ past) mid new (Ok x) reads known adds syncs stays =
      let last : new ≡ synced (step m).reads ∷ step m ∷ m ∷ past = subst (λ (l : List Moment). new ≡ added after_sync l) adds syncs in
      let is : (step m).reads ≡ (step (synced before)).reads = ap (λ (n : Moment). (step n).reads) known in (
        synced (step m).reads ∷ step m ∷ [],
        last,
        (
          λ image h. subst (λ (l : List ℕ). IsImage (step (synced before)) l) (sym is ∙ sym (image_of_synced (step m).reads image h)) reads,
          (within_step m known, tt),
        ),
      )
  synced_goes (m ∷ past) mid new (Err e) reads known adds syncs stays = step_goes (m ∷ past) new known (stays ∙ adds)

-- ---- images of a log that is changed

hide_behind : (front rest : List ℕ) (n : ℕ) → hide_at (length front) n (map (λ b. Some b) (front ++ rest)) ≡ map (λ b. Some b) front ++ hide n (map (λ b. Some b) rest)
hide_behind [] rest n = refl
hide_behind (x ∷ front) rest n = ap (λ (s : List (Option ℕ)). Some x ∷ s) (hide_behind front rest n)

-- bytes written behind a front leave it as it is
pub image_behind : (front rest : List ℕ) (at : ℕ) (bytes image : List ℕ) → at ≡ length front → IsImage (after_write at bytes (synced (front ++ rest))) image → (d : List ℕ) × (image ≡ front ++ d)
image_behind front rest at [] image is h = (rest, image_of_synced (front ++ rest) image h)
image_behind front rest at (b ∷ bytes) image is h =
    let found : Matches (hide_at (length front) (length (b ∷ bytes)) (map (λ b. Some b) (front ++ rest))) image = subst (λ (n : ℕ). Matches (hide_at n (length (b ∷ bytes)) (map (λ b. Some b) (front ++ rest))) image) is h.0 in
    let split = matches_front front (hide (length (b ∷ bytes)) (map (λ b. Some b) rest)) image (subst (λ (s : List (Option ℕ)). Matches s image) (hide_behind front rest (length (b ∷ bytes))) found) in
    (split.0, split.1)

-- ... and where nothing followed it
pub image_after : (front : List ℕ) (at : ℕ) (bytes image : List ℕ) → at ≡ length front → IsImage (after_write at bytes (synced front)) image → (d : List ℕ) × (image ≡ front ++ d)
image_after front at bytes image is h =
    image_behind front [] at bytes image is (subst (λ (l : List ℕ). IsImage (after_write at bytes (synced l)) image) (sym (append-nil front)) h)

hide_gate : (front : List ℕ) (gate : ℕ) (following : List ℕ) → hide_at (length front) 1 (map (λ b. Some b) (front ++ gate ∷ following)) ≡ map (λ b. Some b) front ++ None ∷ map (λ b. Some b) following
hide_gate [] gate following = refl
hide_gate (x ∷ front) gate following = ap (λ (s : List (Option ℕ)). Some x ∷ s) (hide_gate front gate following)

any_gate : (front following d image : List ℕ) → image ≡ front ++ d → Matches (None ∷ map (λ b. Some b) following) d → (gate : ℕ) × (more : List ℕ) × (image ≡ front ++ gate ∷ (following ++ more))
any_gate front following [] image is h = absurd h
any_gate front following (gate ∷ d) image is h =
    let rest = matches_front following [] d (subst (λ (s : List (Option ℕ)). Matches s d) (sym (append-nil (map (λ b. Some b) following))) h) in
    (gate, rest.0, is ∙ ap (λ (l : List ℕ). front ++ gate ∷ l) rest.1)

-- while one gate is written, it may be any, and the rest stays
pub image_of_gate : (front : List ℕ) (at gate : ℕ) (following image : List ℕ) → at ≡ length front → IsImage (after_write at (1 ∷ []) (synced (front ++ gate ∷ following))) image → (g : ℕ) × (more : List ℕ) × (image ≡ front ++ g ∷ (following ++ more))
image_of_gate front at gate following image is h =
    let found : Matches (hide_at (length front) 1 (map (λ b. Some b) (front ++ gate ∷ following))) image = subst (λ (n : ℕ). Matches (hide_at n 1 (map (λ b. Some b) (front ++ gate ∷ following))) image) is h.0 in
    let rest = matches_front front (None ∷ map (λ b. Some b) following) image (subst (λ (s : List (Option ℕ)). Matches s image) (hide_gate front gate following) found) in
    any_gate front following rest.0 image rest.1 rest.2

-- a cut leaves what is before it
pub image_of_cut : (front rest image : List ℕ) (len : ℕ) → len ≡ length front → IsImage (after_cut len (synced (front ++ rest))) image → (d : List ℕ) × (image ≡ front ++ d)
image_of_cut front rest image len is h =
    let known : take len (map (λ b. Some b) (front ++ rest)) ≡ map (λ b. Some b) front ++ [] =
    take-map (λ b. Some b) len (front ++ rest) ∙ ap (λ (l : List ℕ). map (λ b. Some b) l) (take_at front rest len (sym is)) ∙ sym (append-nil (map (λ b. Some b) front)) in
    let found = matches_front front [] image (subst (λ (s : List (Option ℕ)). Matches s image) known h.0) in
    (found.0, found.1)

-- ---- what a read gives then

put_behind : (front rest bytes : List ℕ) (at : ℕ) → at ≡ length front → put at bytes (front ++ rest) ≡ front ++ (bytes ++ drop (length bytes) rest)
put_behind [] rest bytes zero is = refl
put_behind [] rest bytes (suc at) is = absurd (omega arith)
put_behind (x ∷ front) rest bytes zero is = absurd (omega arith)
put_behind (x ∷ front) rest bytes (suc at) is = ap (λ (l : List ℕ). x ∷ l) (put_behind front rest bytes at (omega arith))

pub reads_behind : (front rest bytes : List ℕ) (at : ℕ) → at ≡ length front → (after_write at bytes (synced (front ++ rest))).reads ≡ front ++ (bytes ++ drop (length bytes) rest)
reads_behind front rest [] at is = refl
reads_behind front rest (b ∷ bytes) at is = put_behind front rest (b ∷ bytes) at is

pub reads_after : (front bytes : List ℕ) (at : ℕ) → at ≡ length front → (after_write at bytes (synced front)).reads ≡ front ++ bytes
reads_after front bytes at is =
    ap (λ (l : List ℕ). (after_write at bytes (synced l)).reads) (sym (append-nil front)) ∙ reads_behind front [] bytes at is
    ∙ ap (λ (l : List ℕ). front ++ (bytes ++ l)) (drop_all (length bytes) [] (omega arith)) ∙ ap (λ (l : List ℕ). front ++ l) (append-nil bytes)

pub put_gate : (front : List ℕ) (gate : ℕ) (following : List ℕ) (at : ℕ) → at ≡ length front → put at (1 ∷ []) (front ++ gate ∷ following) ≡ front ++ 1 ∷ following
put_gate [] gate following zero is = refl
put_gate [] gate following (suc at) is = absurd (omega arith)
put_gate (x ∷ front) gate following zero is = absurd (omega arith)
put_gate (x ∷ front) gate following (suc at) is = ap (λ (l : List ℕ). x ∷ l) (put_gate front gate following at (omega arith))
