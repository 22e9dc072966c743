use Rattle.std.proofs.Common.{◌≡◌, ◌+◌, ◌-◌, ◌≤◌, length, drop, arith}
use Rattle.std.proofs.lemmas.Simd.{take_more_put_chunk, length-chunk}
use Rattle.sj_read.proofs.Unescaping.{front_of}
use lib.Lanes.{chunk, put_chunk}
use Rattle.sj_read.proofs.unescape.put_plain.Goals as goal

pub returns-clause-put : goal.returns-clause-put
returns-clause-put c =
    let a = c.args in
    let v = chunk a.from 16 a.bytes.now in
    let room : a.from + 16 ≤ length a.bytes.now = omega (arith, c.if-bytes-from-lt-STEP.false, c.requires.between) in
    let long : length v ≡ 16 = length-chunk a.from 16 a.bytes.now room in
    let few : a.to - a.from ≤ 16 = omega (arith, c.if-to-from-gt-STEP.false) in
    front_of (put_chunk a.len a.buffer.now v) a.buffer.now (drop a.from a.bytes.now) a.len 16 (a.to - a.from) few (omega (arith, c.requires.room))
    (take_more_put_chunk a.len a.buffer.now v (a.len + 16) (omega (arith, long)) (omega (arith, c.requires.room)))
