use Rattle.std.proofs.Common.{◌≡◌, ◌++◌, List, sym, ap, ◌∙◌, subst}
use Rattle.std.specs.Option.{option_copied}
use Rattle.cam_event.specs.declared.Deed.{Deed}
use Rattle.cam_event.specs.declared.Operation.{Operation}
use Rattle.cam_event.specs.Live.{live}
use Rattle.cam_plain.specs.Legal.{history}
use Rattle.cam_serial.specs.Gathered.{TellsCommitted, TellsGroups, joined, own_of}
use Rattle.cam_serial.specs.Law.{ViewIsCovered}
use Rattle.cam_serial.specs.Serial.{Replays}
use Rattle.cam_serial.proofs.Gathering.{serial_is}
use Rattle.cam_serial.proofs.Laws.{replay, view_is_covered}
use Rattle.cam_serial.proofs.list.serial.Goals as goal

pub returns-clause-value : goal.returns-clause-value
returns-clause-value c =
    let objects = c.args.objects.now in
    let L = history c.args.deeds.now in
    let names = c.in_ok-committed.committed in
    let groups = c.in_ok-groups.groups in
    let name = option_copied c.args.name in
    let tells : TellsCommitted L names = subst (λ (ds : List Deed). TellsCommitted (history ds) names) c.as_slice.ensures c.in_ok-committed.ensures in
    let gathered : TellsGroups names (live objects L) groups =
    subst (λ (os : List Operation). TellsGroups names os groups) (c.as_slice-2.ensures ∙ c.in_ok-operations.ensures) c.in_ok-groups.ensures in
    let joined_so : c.in_ok-list.list ≡ joined groups L = c.in_ok-list.ensures ∙ ap (λ (ds : List Deed). joined groups (history ds)) c.as_slice-3.ensures in
    let own : own_of names name c.as_slice-4.result.now ≡ own_of names name (live objects L) = ap (own_of names name) (c.as_slice-4.ensures ∙ c.in_ok-operations.ensures) in
    c.in_ok-add_own.ensures ∙ (λ i. joined_so i ++ own i) ∙ serial_is objects L names groups name tells gathered

pub returns-clause-replays : goal.returns-clause-replays
returns-clause-replays c = λ legal.
    subst (Replays c.args.objects.now) (sym (returns-clause-value c)) (replay c.args.objects.now (history c.args.deeds.now) (option_copied c.args.name) legal)

pub returns-clause-view_is_covered : goal.returns-clause-view_is_covered
returns-clause-view_is_covered c = λ legal.
    subst (λ (os : List Operation). ViewIsCovered c.args.objects.now (history c.args.deeds.now) (option_copied c.args.name) os) (sym (returns-clause-value c))
    (view_is_covered c.args.objects.now (history c.args.deeds.now) (option_copied c.args.name) legal)
