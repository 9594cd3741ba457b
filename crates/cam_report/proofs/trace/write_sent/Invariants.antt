use Rattle.std.proofs.Common.{◌≡◌, ◌+◌, ◌++◌, drop, string_bytes}
use Rattle.cam_report.specs.Traces.{sent_text}
use Rattle.cam_report.proofs.trace.write_sent.Given as goal

abbrev pub invariant-loop-place : goal.invariant-loop-place
invariant-loop-place l =
    string_bytes l.out ++ sent_text (l.first + l.place) (drop l.place l.sent)
    ≡ string_bytes l.fn.out ++ sent_text l.first l.sent
