-- The transcript's lines, one more at a time.
use Rattle.std.proofs.Common.{◌≡◌, ℕ, suc, ◌+◌, ◌<◌, List, [], ◌∷◌, ◌++◌, length, get_or, take, sym, ap, ◌∙◌, append_assoc, add-zero, arith}
use Rattle.std.specs.List.{flat_map}
use Rattle.std.proofs.lemmas.List.{flat_map_more, take_more, append-nil, map_push, length-map, length-take}
use Rattle.wp_model.specs.declared.entry.Entry.{Entry}
use Rattle.wp_text.specs.declared.script.Part.{Part}
use Rattle.wp_text.specs.declared.reply.Reply.{Reply}
use Rattle.wp_text.specs.Lines.{entry_line, entry_lines}
use Rattle.wp_text.specs.Answered.{Answered, replies_in, replies_of}
use Rattle.wp_transcript.specs.Transcript.{client_text, client_lines}

-- one more piece after what was appended so far
pub appends : (start front mid piece now whole : List ℕ) → mid ≡ start ++ front → now ≡ mid ++ piece → whole ≡ front ++ piece → now ≡ start ++ whole
appends start front mid piece now whole so_far one is = one ∙ ap (λ (xs : List ℕ). xs ++ piece) so_far ∙ append_assoc start front piece ∙ ap (λ (xs : List ℕ). start ++ xs) (sym is)

-- one more line after those of a list so far
pub lines_more : {X : Type 0} (f : X → List ℕ) (start now new : List ℕ) (xs : List X) (i : ℕ) (x : X) → i < length xs → x ≡ get_or xs i x → now ≡ start ++ flat_map f (take i xs) → new ≡ now ++ f x → new ≡ start ++ flat_map f (take (i + 1) xs)
lines_more f start now new xs i x lt is so_far one =
    one ∙ ap (λ (ys : List ℕ). ys ++ f x) so_far ∙ flat_map_more f start (take i xs) x ∙ ap (λ ys. start ++ flat_map f ys) (sym (take_more xs i x lt ∙ ap (λ y. take i xs ++ y ∷ []) (sym is)))

entry_lines-push : (n : ℕ) (front : List Entry) (e : Entry) → entry_lines n (front ++ e ∷ []) ≡ entry_lines n front ++ entry_line (n + length front) e
entry_lines-push n [] e = append-nil (entry_line n e) ∙ ap (λ (k : ℕ). entry_line k e) (sym (add-zero n))
entry_lines-push n (x ∷ front) e =
    let at : (n + 1) + length front ≡ n + suc (length front) = omega arith in
    ap (λ (xs : List ℕ). entry_line n x ++ xs) (entry_lines-push (n + 1) front e ∙ ap (λ (k : ℕ). entry_lines (n + 1) front ++ entry_line k e) at) ∙ sym (append_assoc (entry_line n x) (entry_lines (n + 1) front) (entry_line (n + suc (length front)) e))

pub entry_lines_more : (first : ℕ) (entries : List Entry) (i : ℕ) (here : Entry) → i < length entries → here ≡ get_or entries i here → entry_lines first (take (i + 1) entries) ≡ entry_lines first (take i entries) ++ entry_line (first + i) here
entry_lines_more first entries i here lt is =
    let at : first + length (take i entries) ≡ first + i = omega (arith, length-take i entries) in
    rw (take_more entries i here lt, ← is) (entry_lines-push first (take i entries) here ∙ ap (λ (k : ℕ). entry_lines first (take i entries) ++ entry_line k here) at)

client_lines-push : (parts : List Part) (sessions : List (List Reply)) (part : Part) (answers : List Reply) → length parts ≡ length sessions → client_lines (parts ++ part ∷ []) (sessions ++ answers ∷ []) ≡ client_lines parts sessions ++ client_text part answers
client_lines-push [] [] part answers same = append-nil (client_text part answers)
client_lines-push [] (a ∷ sessions) part answers same = absurd (omega arith)
client_lines-push (p ∷ parts) [] part answers same = absurd (omega arith)
client_lines-push (p ∷ parts) (a ∷ sessions) part answers same =
    let first = client_text p a in
    ap (λ (xs : List ℕ). first ++ xs) (client_lines-push parts sessions part answers (omega arith)) ∙ sym (append_assoc first (client_lines parts sessions) (client_text part answers))

pub client_lines_more : (parts : List Part) (sessions : List Answered) (i : ℕ) (part : Part) (answered : Answered) → length parts ≡ length sessions → i < length parts → part ≡ get_or parts i part → answered ≡ get_or sessions i answered
    → client_lines (take (i + 1) parts) (replies_of (take (i + 1) sessions)) ≡ client_lines (take i parts) (replies_of (take i sessions)) ++ client_text part answered.replies
client_lines_more parts sessions i part answered same lt part-is answered-is =
    let fronts : length (take i parts) ≡ length (replies_of (take i sessions)) = omega (arith, length-map (take i sessions) replies_in, length-take i parts, length-take i sessions) in
    let within : i < length sessions = omega arith in
    rw (take_more parts i part lt, ← part-is, take_more sessions i answered within, ← answered-is, map_push replies_in (take i sessions) answered) (client_lines-push (take i parts) (replies_of (take i sessions)) part answered.replies fronts)
