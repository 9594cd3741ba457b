-- What four nodes say to each other in a ring.
use Rattle.std.specs.Prelude.{◌≡◌, ◌+◌, ◌*◌, ◌%◌, ◌==◌, if◌then◌else◌, ℕ, Bool, false, List, [], ◌∷◌, length, Option, Some, None}
use Rattle.cam_journal.specs.declared.entry.SentLetter.{SentLetter}
use Rattle.cam_journal.specs.declared.entry.NumberedEvent.{NumberedEvent}
use Rattle.cam_journal.specs.declared.input.CoreInput.{CoreInput}
use Rattle.cam_journal.specs.declared.input.CoreInput.TheVariants.{Letter, Drive}
use Rattle.cam_journal.specs.declared.input.CoreFault.{CoreFault}
use Rattle.cam_journal.specs.declared.input.CoreFault.TheVariants.{DiskFault, NoMemory}
use Rattle.cam_journal.specs.Rule.{IsNode}
use Rattle.cam_journal.specs.Seats.{letter_at}
use Rattle.cam_test_threads.specs.declared.speaker.Remark.{Remark}
use Rattle.cam_test_threads.specs.declared.speaker.Speech.{Speech}
use Rattle.cam_test_threads.specs.declared.speaker.Speech.TheVariants.{Spoken, Answer}

-- the letter that a speech names as received
abbrev pub names : Speech → Option (ℕ × ℕ)
names (Spoken remark) = None
names (Answer number event place) = Some (event, place)

-- the letters that it sends
abbrev pub sends : Speech → List Remark
sends (Spoken remark) = remark ∷ []
sends (Answer number event place) = []

-- how often a remark is put into a mailbox
abbrev pub copies : Remark → ℕ
copies remark = if remark.twice then 2 else 1

-- the number that a speech says
abbrev pub number_in : Speech → ℕ
number_in (Spoken remark) = remark.number
number_in (Answer number event place) = number

-- what a node says next, which has said so many numbers
abbrev pub number_of : ℕ → ℕ → ℕ → ℕ → ℕ
number_of first step node said = first + node + step * said

-- a remark goes to the next node of the ring
abbrev pub GoesOn : ℕ → Speech → Type 0
GoesOn node (Spoken remark) = remark.to ≡ node % 4 + 1
GoesOn node (Answer number event place) = Unit {0}

-- a node says its numbers in order, and each remark to the next node
abbrev pub IsLawful : ℕ → ℕ → ℕ → List (NumberedEvent Speech Remark) → Option (SentLetter Remark)
    → Speech → Type 0
IsLawful first step node history received speech =
    (number_in speech ≡ number_of first step node (length history)) × GoesOn node speech

-- by itself a node speaks, and to a letter it answers
abbrev pub Answers : CoreInput Remark → Speech → Type 0
Answers Drive (Spoken remark) = Unit {0}
Answers (Letter number place remark) (Answer said event at) = (event ≡ number) × (at ≡ place)
Answers Drive (Answer said event at) = ⊥
Answers (Letter number place remark) (Spoken said) = ⊥

-- the letter of this event was the last that was answered
abbrev pub was_answered : Option ℕ → ℕ → Bool
was_answered None number = false
was_answered (Some event) number = event == number

-- by itself a node is idle once it has spoken its share, and at a letter that it answered last
abbrev pub is_idle : ℕ → Option ℕ → CoreInput Remark → Bool
is_idle share answered Drive = share == 0
is_idle share answered (Letter number place remark) = was_answered answered number

-- how often the disk has failed: not yet, while that is still to come
abbrev pub faults_by : Option CoreFault → ℕ
faults_by (Some DiskFault) = 0
faults_by (Some NoMemory) = 1
faults_by None = 1

-- a speaker of this node that has said as many numbers as the history has events
pub record IsReplay (own said node : ℕ) (history : List (NumberedEvent Speech Remark)) : Type 0 where
  pub ring : IsNode 4 node
  pub node_is : own ≡ node
  pub said_are : said ≡ length history

-- the event with this number spoke to a node
abbrev pub HasRemark : List (NumberedEvent Speech Remark) → ℕ → ℕ → Type 0
HasRemark history node number =
    (remark : Remark) × (letter_at sends history number 0 ≡ Some remark) × (remark.to ≡ node)
