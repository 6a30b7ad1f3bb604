-- What is true of every session.
use Rattle.std.specs.Prelude.{◌≡◌, ◌⊎◌, ℕ, ◌≤◌, Bool, true, List, [], ◌∷◌, ◌++◌, length, Some, None, IfSome}
use Rattle.std.specs.List.{AllByRecursion, Contains}
use Rattle.wp_model.specs.declared.change.Change.{Change}
use Rattle.wp_model.specs.declared.change.Change.TheVariants as change
use Rattle.wp_model.specs.declared.entry.Entry.{Entry}
use Rattle.wp_model.specs.declared.entry.Entry.TheVariants as entry
use Rattle.wp_model.specs.History.{value_at}
use Rattle.wp_model.specs.Rows.{rows}
use Rattle.wp_text.specs.declared.script.Command.{Command}
use Rattle.wp_text.specs.declared.script.Command.TheVariants as command
use Rattle.wp_text.specs.declared.reply.Reply.{Reply}
use Rattle.wp_text.specs.declared.reply.Reply.TheVariants as reply
use Rattle.wp_replies.specs.declared.client.LabelledSnapshot.{LabelledSnapshot}
use Rattle.wp_replies.specs.Txn.{Txn, Idle, Open, Prepared}
use Rattle.wp_replies.specs.Client.{Client, new_client, number_of}
use Rattle.wp_replies.specs.After.{labels_after, after_reply}
use Rattle.wp_replies.specs.Kind.{acknowledged, fresh_in, last_after}
use Rattle.wp_replies.specs.Progress.{Progress}
use Rattle.wp_replies.specs.Replies.{Claim, Evidence, IsKnown, IsFresh, IsLoggedAt, WasUndecided, CommitsNamed, Condition}
use Rattle.wp_replies.specs.Alike.{IsLike, IsFrom}
use Rattle.wp_replies.specs.Moments.{AreDueFrom}
use Rattle.wp_replies.specs.Session.{IsSession}

-- ---- the relation

-- A session stays one as the history grows, where what was known of the others is known still.
abbrev pub SessionGrows : Type 0
SessionGrows = (evidence : Evidence) (more : List Entry) (later : Claim → Bool) (progress : Progress) (client : Client) (commands : List Command) (answers : List Reply)
    → evidence.base ≤ length evidence.history
    → ((claim : Claim) → IsKnown evidence claim → later claim ≡ true)
    → IsSession evidence progress client commands answers
    → IsSession (record evidence { history = evidence.history ++ more; known = later }) progress client commands answers

-- Replies that are due at moments of the history, one after another, are a session, where what is known of the others
-- fits the devices at these moments.
abbrev pub DueIsSession : Type 0
DueIsSession = (evidence : Evidence) (from : ℕ) (progress : Progress) (commands : List Command) (answers : List Reply)
    → evidence.base ≤ progress.last → progress.last ≤ from → AreDueFrom evidence from progress new_client commands answers
    → IsSession evidence progress new_client commands answers

-- What is below the base of the log does not matter: with another list that tells alike from there on, the same sessions are allowed.
-- Where the two are full lists of one cut, with the same values at its base, they tell alike.
abbrev pub SessionsTellAlike : Type 0
SessionsTellAlike = (evidence : Evidence) (other : List Entry) (progress : Progress) (commands : List Command) (answers : List Reply)
    → IsLike evidence other → evidence.base ≤ progress.last → AllByRecursion (λ k. evidence.base ≤ k.told) progress.keys
    → IsSession evidence progress new_client commands answers
    → IsSession (record evidence { history = other }) progress new_client commands answers

-- Likewise each row by itself, where what the client has is from the base on.
abbrev pub ConditionsTellAlike : Type 0
ConditionsTellAlike = (evidence : Evidence) (other : List Entry) (progress : Progress) (client : Client) (p : ℕ) (command : Command) (answer : Reply)
    → IsLike evidence other → IsFrom evidence.base evidence.history progress client
    → Condition evidence progress client p command answer
    → Condition (record evidence { history = other }) progress client p command answer

-- ---- reads

-- The value that a read is answered is what the first n entries leave under the key, where n is the reply's number, and
-- the rows of a scan are what they leave under the keys of its range. A
-- fresh n is nothing that the client has seen pass, and a snapshot's is the one that it was taken at.
abbrev pub ReadsValue : List Entry → ℕ → List LabelledSnapshot → Command → Reply → Type 0
ReadsValue history last snapshots (command.Get key) (reply.Got value n) = IsFresh history last n × (value_at history key n ≡ Some value)
ReadsValue history last snapshots (command.Get key) (reply.Missing n) = IsFresh history last n × (value_at history key n ≡ None)
ReadsValue history last snapshots (command.Lock key) (reply.Got value n) = IsFresh history last n × (value_at history key n ≡ Some value)
ReadsValue history last snapshots (command.Lock key) (reply.Missing n) = IsFresh history last n × (value_at history key n ≡ None)
ReadsValue history last snapshots (command.GetAt key label) (reply.Got value n) = (number_of snapshots label ≡ Some n) × (n ≤ length history) × (value_at history key n ≡ Some value)
ReadsValue history last snapshots (command.GetAt key label) (reply.Missing n) = (number_of snapshots label ≡ Some n) × (n ≤ length history) × (value_at history key n ≡ None)
ReadsValue history last snapshots (command.Scan from to) (reply.Rows pairs n) = IsFresh history last n × (pairs ≡ rows history from to n)
ReadsValue history last snapshots (command.ScanAt from to label) (reply.Rows pairs n) = (number_of snapshots label ≡ Some n) × (n ≤ length history) × (pairs ≡ rows history from to n)
ReadsValue history last snapshots command answer = Unit {0}

abbrev pub AreReads : List Entry → ℕ → List LabelledSnapshot → List Command → List Reply → Type 0
AreReads history last snapshots (first ∷ commands) (answer ∷ answers) = ReadsValue history last snapshots first answer × AreReads history (last_after last first answer) (labels_after snapshots first answer) commands answers
AreReads history last snapshots commands answers = Unit {0}

-- The reads of a session are values of the history.
abbrev pub ReadsAreValues : Type 0
ReadsAreValues = (evidence : Evidence) (progress : Progress) (client : Client) (commands : List Command) (answers : List Reply)
    → IsSession evidence progress client commands answers
    → AreReads evidence.history progress.last client.snapshots commands answers

-- ---- numbers

-- each fresh number is at least the one before it, and at most the history's length
abbrev pub NeverFall : List Entry → ℕ → List Command → List Reply → Type 0
NeverFall history last (first ∷ commands) (answer ∷ answers) = IfSome (fresh_in first answer) (IsFresh history last) × NeverFall history (last_after last first answer) commands answers
NeverFall history last commands answers = Unit {0}

abbrev pub FreshNumbersNeverFall : Type 0
FreshNumbersNeverFall = (evidence : Evidence) (progress : Progress) (client : Client) (commands : List Command) (answers : List Reply)
    → IsSession evidence progress client commands answers
    → NeverFall evidence.history progress.last commands answers

-- ---- entries

-- the command asks the log for the entry
abbrev pub AsksLog : List Entry → (last : ℕ) → Txn → Command → Entry → Type 0
AsksLog history last Idle (command.Put key value) e = e ≡ entry.Write (change.Put key value ∷ [])
AsksLog history last Idle (command.Del key) e = e ≡ entry.Write (change.Del key ∷ [])
AsksLog history last Idle (command.Settle names) e = (name : List ℕ) × Contains names name × CommitsNamed history last name e
AsksLog history last (Open own) command.Prepare e = e ≡ entry.Prepare own.name own.batch
AsksLog history last (Open own) command.Commit e = e ≡ entry.Write own.batch
AsksLog history last (Prepared p) command.Commit e = e ≡ entry.Commit p
AsksLog history last (Prepared p) command.Rollback e = (e ≡ entry.Close p) ⊎ ((batch : List Change) × (e ≡ entry.Undo p batch))
AsksLog history last txn command e = ⊥

-- each number is past all that the client has seen, and is that of an entry that the command asks for
abbrev pub AreAsked : List Entry → ℕ → Txn → Command → List ℕ → Type 0
AreAsked history last txn command [] = Unit {0}
AreAsked history last txn command (n ∷ numbers) = ((e : Entry) × IsLoggedAt history last n e × AsksLog history last txn command e) × AreAsked history last txn command numbers

-- `took` gives the prepare with the number p, which has that name and was undecided
abbrev pub Takes : List Entry → ℕ → ℕ → Command → Reply → Type 0
Takes history last p (command.Take name) reply.Took = WasUndecided history last name p
Takes history last p command answer = Unit {0}

-- what the replies acknowledge is in the history
abbrev pub AreLogged : List Entry → ℕ → Client → List Command → List Reply → Type 0
AreLogged history last client (first ∷ commands) (answer ∷ answers) = AreAsked history last client.txn first (acknowledged answer) × ((p : ℕ) × Takes history last p first answer × AreLogged history (last_after last first answer) (after_reply p client first answer) commands answers)
AreLogged history last client commands answers = Unit {0}

abbrev pub AcknowledgedAreLogged : Type 0
AcknowledgedAreLogged = (evidence : Evidence) (progress : Progress) (client : Client) (commands : List Command) (answers : List Reply)
    → IsSession evidence progress client commands answers
    → AreLogged evidence.history progress.last client commands answers
