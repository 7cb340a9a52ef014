-- What was sent before a fault is the prefix that there was room for.
use Rattle.std.proofs.Common.{rules, take, drop, sym}
use Rattle.std.proofs.lemmas.List.{take-append-drop}
use Rattle.lt_io.proofs.script_link.ScriptLinkLink.send.Goals as goal

pub returns-then-count-bytes-clause-prefix : goal.returns-then-count-bytes-clause-prefix
returns-then-count-bytes-clause-prefix c =
    let bytes = c.args.bytes.now in
    let count = c.min-count.result in
    (take count bytes, drop count bytes, sym (take-append-drop count bytes), search rules)
