-- The letter that waits is handed over.
use Rattle.std.proofs.Common.{ap, ◌∙◌, rules}
use Rattle.cam_net.specs.Waiting.{next_of}
use Rattle.cam_cluster.proofs.AsSeen.{reads_of, works_of}
use Rattle.cam_cluster.proofs.DisksGoOn.{goes_on_then}
use Rattle.cam_cluster.proofs.HandedOver.{works_may_be_written}
use Rattle.cam_cluster.proofs.LineEnds.{some_works, then_before}
use Rattle.cam_cluster.proofs.NextDelivered.{handed_next, next_awake, next_found, none_next}
use Rattle.cam_cluster.proofs.PlacedNodes.{on_err}
use Rattle.cam_cluster.proofs.works.Works.deliver_next.Goals as goal

pub put_letters-requires : goal.put_letters-requires
put_letters-requires g c = record {
  writable = works_may_be_written _ _ c.requires.stand;
}

pub returns-in_err-put_letters-clause-disks : goal.returns-in_err-put_letters-clause-disks
returns-in_err-put_letters-clause-disks g c =
    c.put_letters.ensures.disks

pub returns-in_err-put_letters-clause-next : goal.returns-in_err-put_letters-clause-next
returns-in_err-put_letters-clause-next g c =
    search rules

pub returns-in_err-put_letters-clause-as_before : goal.returns-in_err-put_letters-clause-as_before
returns-in_err-put_letters-clause-as_before g c = on_err _ _ c.put_letters.ensures.as_before

pub returns-in_default-clause-disks : goal.returns-in_default-clause-disks
returns-in_default-clause-disks g c =
    c.put_letters.ensures.disks

pub returns-in_default-clause-next : goal.returns-in_default-clause-next
returns-in_default-clause-next g c =
    none_next c.args.line _ _ _ _ c.put_letters.ensures.as_before
    c.in_ok-put_letters.ensures.all (c.in_default.ensures ∙ ap (λ n. next_of
    c.put_letters.new.self.halted n) c.net.ensures)

pub coming-requires : goal.coming-requires
coming-requires g c = record { all = c.in_ok-put_letters.ensures.all }

pub unreachable-requires : goal.unreachable-requires
unreachable-requires g c =
    next_found _ _ _ (some_works _ _ _ _ c.put_letters.ensures.as_before c.requires.stand)
    c.in_ok-put_letters.ensures.all (c.in-Some.ensures ∙ ap (λ n. next_of
    c.put_letters.new.self.halted n) c.net.ensures) c.in_default-coming.ensures.found

pub unreachable-unreachable : goal.unreachable-unreachable
unreachable-unreachable g c =
    next_found _ _ _ (some_works _ _ _ _ c.put_letters.ensures.as_before c.requires.stand)
    c.in_ok-put_letters.ensures.all (c.in-Some.ensures ∙ ap (λ n. next_of
    c.put_letters.new.self.halted n) c.net.ensures) c.in_default-coming.ensures.found

pub read-requires-clause-all : goal.read-requires-clause-all
read-requires-clause-all g c =
    c.in_ok-put_letters.ensures.all

pub read-requires-clause-stand : goal.read-requires-clause-stand
read-requires-clause-stand g c =
    (some_works _ _ _ _ c.put_letters.ensures.as_before c.requires.stand)

pub read-requires-clause-found : goal.read-requires-clause-found
read-requires-clause-found g c =
    c.in-Some-coming.ensures.found

pub returns-in_err-letter-clause-disks : goal.returns-in_err-letter-clause-disks
returns-in_err-letter-clause-disks g c =
    c.put_letters.ensures.disks

pub returns-in_err-letter-clause-next : goal.returns-in_err-letter-clause-next
returns-in_err-letter-clause-next g c =
    search rules

pub returns-in_err-letter-clause-as_before : goal.returns-in_err-letter-clause-as_before
returns-in_err-letter-clause-as_before g c = on_err _ _ c.put_letters.ensures.as_before

pub hand_over-requires-clause-all : goal.hand_over-requires-clause-all
hand_over-requires-clause-all g c =
    c.in_ok-put_letters.ensures.all

pub hand_over-requires-clause-stand : goal.hand_over-requires-clause-stand
hand_over-requires-clause-stand g c =
    (some_works _ _ _ _ c.put_letters.ensures.as_before c.requires.stand)

pub hand_over-requires-clause-found : goal.hand_over-requires-clause-found
hand_over-requires-clause-found g c =
    c.in-Some-coming.ensures.found

pub hand_over-requires-clause-awake : goal.hand_over-requires-clause-awake
hand_over-requires-clause-awake g c =
    next_awake _ _ _ _ (some_works _ _ _ _ c.put_letters.ensures.as_before c.requires.stand)
    c.in_ok-put_letters.ensures.all (c.in-Some.ensures ∙ ap (λ n. next_of
    c.put_letters.new.self.halted n) c.net.ensures) c.in-Some-coming.ensures.found

pub hand_over-requires-clause-read : goal.hand_over-requires-clause-read
hand_over-requires-clause-read g c =
    c.in_ok-letter.ensures

pub returns-in_err-done-clause-disks : goal.returns-in_err-done-clause-disks
returns-in_err-done-clause-disks g c =
    goes_on_then c.put_letters.ensures.disks c.hand_over.ensures.disks

pub returns-in_err-done-clause-next : goal.returns-in_err-done-clause-next
returns-in_err-done-clause-next g c =
    search rules

pub returns-in_err-done-clause-as_before : goal.returns-in_err-done-clause-as_before
returns-in_err-done-clause-as_before g c =
    on_err _ _ (then_before _ _ _ _ _ _ c.put_letters.ensures.as_before
    c.in_err-done.ensures.as_before)

pub returns-clause-disks : goal.returns-clause-disks
returns-clause-disks g c =
    goes_on_then c.put_letters.ensures.disks c.hand_over.ensures.disks

pub returns-clause-next : goal.returns-clause-next
returns-clause-next g c =
    handed_next _ _ _ _ _ _ _ _ _ c.put_letters.ensures.as_before
    c.in_ok-put_letters.ensures.all (c.in-Some.ensures ∙ ap (λ n. next_of
    c.put_letters.new.self.halted n) c.net.ensures) c.in_ok-done.ensures.delivered
