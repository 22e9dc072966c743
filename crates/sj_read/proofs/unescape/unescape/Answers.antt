use Rattle.std.proofs.Common.{◌≡◌, ℕ, ◌+◌, ◌-◌, ◌<◌, ◌≤◌, List, ◌++◌, length, take, drop, get_or, arith, refl, sym, ap, ap₂, ◌∙◌, subst}
use Rattle.std.specs.List.{prefix_len}
use Rattle.std.specs.Char.{encode_utf8}
use Rattle.std.specs.Str.{IsUtf8, IsCharBoundary}
use Rattle.std.proofs.lemmas.Str.{IsCharBoundary-after_ascii, IsUtf8-append, IsUtf8-between, IsUtf8-nil}
use Rattle.sj_base.specs.ByteClasses.{is_plain}
use Rattle.sj_read.specs.Strings.{FindsEscape, NoEscape, HoldsString}
use Rattle.sj_read.proofs.Scanned.{no_plain}
use Rattle.sj_read.proofs.Unescaping.{Reaches, stop_boundary, passes, string_cut, string_closes, escape_passes, bad_escape, bad_byte, escape_boundary, written_back}
use Rattle.sj_read.proofs.unescape.unescape.Goals as goal
use Rattle.sj_read.proofs.unescape.unescape.Goals.{After-plain_end-end, After-put_plain}

pub loop-at-init : goal.loop-at-init
loop-at-init c =
    let t = c.args.text.now in
    let same : c.args.from - 1 + 1 ≡ c.args.from = omega arith in
    record {
      later = omega arith;
      within = c.requires.within.1;
      boundary = subst (IsCharBoundary t) same (IsCharBoundary-after_ascii t (c.args.from - 1) c.utf8.text (omega arith) (omega (arith, c.requires.quote)));
      room = omega arith;
      few = omega arith;
      utf8 = IsUtf8-nil;
      same = λ limit k s. refl;
    }

end_is : (c : After-plain_end-end) → c.plain_end-end.result ≡ c.loop-at.at + prefix_len is_plain (drop c.loop-at.at c.args.text.now)
end_is c = c.plain_end-end.ensures.value ∙ ap (λ (x : List ℕ). c.loop-at.at + prefix_len is_plain (drop c.loop-at.at x)) c.as_bytes-bytes.ensures.value

end_small : (c : After-plain_end-end) → c.plain_end-end.result ≤ length c.args.text.now
end_small c = omega (arith, c.plain_end-end.ensures.bound, ap (λ (x : List ℕ). length x) c.as_bytes-bytes.ensures.value)

-- the text so far
abbrev written : After-put_plain → List ℕ
written c = take (c.loop-at.len + (c.plain_end-end.result - c.loop-at.at)) c.put_plain.new.buffer

written_is : (c : After-put_plain) → written c ≡ take c.loop-at.len c.loop-at.buffer.items ++ take (c.plain_end-end.result - c.loop-at.at) (drop c.loop-at.at c.args.text.now)
written_is c = c.put_plain.ensures.put ∙ ap₂ (λ (x y : List ℕ). x ++ take (c.plain_end-end.result - c.loop-at.at) (drop c.loop-at.at y)) (ap (take c.loop-at.len) c.as_mut_slice.ensures.value ∙ c.in_ok-make_room.ensures.kept) c.as_bytes-bytes.ensures.value

ends : (c : After-put_plain) → c.plain_end-end.result ≤ length c.args.text.now
ends c = end_small (goal.at-After-put_plain c).After-plain_end-end

stops_at : (c : After-put_plain) → c.plain_end-end.result ≡ c.loop-at.at + prefix_len is_plain (drop c.loop-at.at c.args.text.now)
stops_at c = end_is (goal.at-After-put_plain c).After-plain_end-end

passed : (c : After-put_plain) → Reaches c.args.text.now c.args.from c.plain_end-end.result (written c)
passed c = passes c.args.text.now c.args.from c.loop-at.at c.plain_end-end.result c.loop-at.invariant.within (stops_at c) (take c.loop-at.len c.loop-at.buffer.items) (written c) c.loop-at.invariant.same (written_is c)

good : (c : After-put_plain) → IsUtf8 (written c)
good c =
    let t = c.args.text.now in
    let boundary = stop_boundary t c.args.from c.loop-at.at c.plain_end-end.result c.loop-at.invariant.within (stops_at c) (ends c) in
    subst IsUtf8 (sym (written_is c)) (IsUtf8-append _ _ c.loop-at.invariant.utf8 (IsUtf8-between t c.loop-at.at c.plain_end-end.result c.utf8.text (omega (arith, stops_at c)) c.loop-at.invariant.boundary boundary))

long : (c : After-put_plain) → length c.put_plain.new.buffer ≡ length c.make_room.new.buffer.items
long c = c.put_plain.ensures.same ∙ ap (λ (x : List ℕ). length x) c.as_mut_slice.ensures.value

back : (c : After-put_plain) → take c.make_room.new.buffer.len (c.put_plain.new.buffer ++ drop (length c.put_plain.new.buffer) c.make_room.new.buffer.items) ≡ c.put_plain.new.buffer
back c = written_back c.make_room.new.buffer.len c.put_plain.new.buffer c.make_room.new.buffer.items (omega (arith, c.make_room.new.buffer.ok.0)) (long c)

-- the byte where the plain text stops
byte_is : (c : After-put_plain) (b : ℕ) → get_or c.as_bytes-bytes.result.now c.plain_end-end.result 0 ≡ b → get_or c.args.text.now c.plain_end-end.result 0 ≡ b
byte_is c b e = ap (λ (x : List ℕ). get_or x c.plain_end-end.result 0) (sym c.as_bytes-bytes.ensures.value) ∙ e

pub returns-then-end-text : goal.returns-then-end-text
returns-then-end-text c =
    let p = (goal.at.returns-then-end-text c).After-put_plain in
    string_cut c.args.text.now c.args.from c.plain_end-end.result (written p) (passed p) (omega (arith, c.if-end-text.true))

pub returns-in-34 : goal.returns-in-34
returns-in-34 c =
    let p = (goal.at.returns-in-34 c).After-put_plain in
    let end = c.plain_end-end.result in
    subst (λ (b : List ℕ). HoldsString c.args.text.now c.args.from b (record { end = end; len = c.loop-at.len + (end - c.loop-at.at) })) (sym (back p))
    (record {
      found = string_closes c.args.text.now c.args.from end (written p) (passed p) (omega (arith, c.if-end-text.false, ends p)) (omega (arith, c.loop-at.invariant.later, stops_at p)) (byte_is p 34 c.in-34.is);
      utf8 = good p;
      room = omega (arith, long p, c.in_ok-make_room.ensures.room);
    })

pub loop-at-preserved : goal.loop-at-preserved
loop-at-preserved c =
    let t = c.args.text.now in
    let p = (goal.at.loop-at-preserved c).After-put_plain in
    let end = c.plain_end-end.result in
    let len = c.loop-at.len + (end - c.loop-at.at) in
    let now = c.put_char-len.new.buffer in
    let was = c.put_plain.new.buffer in
    let slice : c.as_mut_slice-in-Some.result.now ≡ was = c.as_mut_slice-in-Some.ensures.value ∙ back p in
    let same : length now ≡ length was = c.put_char-len.ensures.same ∙ ap (λ (x : List ℕ). length x) slice in
    let all : take c.make_room.new.buffer.len (now ++ drop (length now) (take c.make_room.new.buffer.len (was ++ drop (length was) c.make_room.new.buffer.items))) ≡ now
    = ap (λ (x : List ℕ). take c.make_room.new.buffer.len (now ++ drop (length now) x)) (back p) ∙ written_back c.make_room.new.buffer.len now was (omega (arith, c.make_room.new.buffer.ok.0, long p)) same in
    let put : take (len + c.put_char-len.result) now ≡ written p ++ encode_utf8 c.in-Some.c = c.put_char-len.ensures.put ∙ ap (λ (x : List ℕ). take len x ++ encode_utf8 c.in-Some.c) slice in
    let found : FindsEscape t (end + 1) c.in-Some.c c.in-Some.next = subst (λ (x : List ℕ). FindsEscape x (end + 1) c.in-Some.c c.in-Some.next) c.as_bytes-bytes.ensures.value c.in-Some.ensures in
    record {
      later = omega (arith, found.later, c.loop-at.invariant.later, stops_at p);
      within = found.within;
      boundary = escape_boundary t (end + 1) c.in-Some.c c.in-Some.next c.utf8.text found;
      room = omega (arith, ap (λ (x : List ℕ). length x) all, same, long p, c.in_ok-make_room.ensures.room, c.put_char-len.ensures.few);
      few = omega (arith, found.later, c.loop-at.invariant.few, c.loop-at.invariant.later, stops_at p, c.put_char-len.ensures.few);
      utf8 = subst (λ (b : List ℕ). IsUtf8 (take (len + c.put_char-len.result) b)) (sym all) (subst IsUtf8 (sym put) (IsUtf8-append _ _ (good p) c.put_char-len.ensures.utf8));
      same = subst (λ (b : List ℕ). Reaches t c.args.from c.in-Some.next (take (len + c.put_char-len.result) b)) (sym all)
          (escape_passes t c.args.from end (written p) (passed p) (omega (arith, c.if-end-text.false, ends p)) (byte_is p 92 c.in-92.is) c.in-Some.c c.in-Some.next found (take (len + c.put_char-len.result) now) put);
    }

pub returns-in-None : goal.returns-in-None
returns-in-None c =
    let t = c.args.text.now in
    let p = (goal.at.returns-in-None c).After-put_plain in
    let end = c.plain_end-end.result in
    bad_escape t c.args.from end (written p) (passed p) (omega (arith, c.if-end-text.false, ends p)) (byte_is p 92 c.in-92.is)
    (subst (λ (x : List ℕ). NoEscape x (end + 1)) c.as_bytes-bytes.ensures.value c.in-None.ensures)

pub returns-in_default : goal.returns-in_default
returns-in_default c =
    let t = c.args.text.now in
    let p = (goal.at.returns-in_default c).After-put_plain in
    let end = c.plain_end-end.result in
    let l : end < length t = omega (arith, c.if-end-text.false, ends p) in
    let same : get_or t end 0 ≡ get_or c.as_bytes-bytes.result.now end 0 = byte_is p (get_or c.as_bytes-bytes.result.now end 0) refl in
    bad_byte t c.args.from end (written p) (passed p) l (no_plain t c.loop-at.at end c.loop-at.invariant.within (stops_at p) l)
    (λ e. absurd (omega (arith, same, e))) (λ e. absurd (omega (arith, same, e)))

pub returns : goal.returns
returns c = string_cut c.args.text.now c.args.from c.loop-at.at (take c.loop-at.len c.loop-at.buffer.items) c.loop-at.invariant.same (omega arith)
