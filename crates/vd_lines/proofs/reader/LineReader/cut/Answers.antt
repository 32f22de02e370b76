use Rattle.std.proofs.Common.{◌≡◌, ◌≢◌, ℕ, ◌-◌, ◌<◌, ◌∙◌, ap, sym, subst, arith, length, take, drop, get_or}
use Rattle.vd_lines.specs.Ahead.{Ahead, IsOneLine, HasNoneBetween}
use Rattle.vd_lines.proofs.Cutting.{none_more, one_line, cut_parts, cut_line}
use Rattle.vd_lines.proofs.reader.LineReader.cut.Goals as goal

pub invariant_of-self : goal.invariant_of-self
invariant_of-self c =
    let i = c.self.invariant in
    let one = subst (λ l. IsOneLine (take (length l - c.self.inside.searched) (drop c.self.inside.searched l))) c.deref.ensures.value c.in-None.ensures in
    let all = none_more c.self.inside.buffer.items c.self.inside.next c.self.inside.searched i.1 i.2 i.3 one in
    let len = c.len-self-inside.ensures ∙ c.self.inside.buffer.ok.0 in
    (i.0, omega (arith, i.1, i.2, len), omega (arith, len), subst (λ n. HasNoneBetween c.self.inside.buffer.items c.self.inside.next n) (sym len) all, i.4)

pub returns-in-None : goal.returns-in-None
returns-in-None c =
    let i = c.self.invariant in
    let one = subst (λ l. IsOneLine (take (length l - c.self.inside.searched) (drop c.self.inside.searched l))) c.deref.ensures.value c.in-None.ensures in
    let all = none_more c.self.inside.buffer.items c.self.inside.next c.self.inside.searched i.1 i.2 i.3 one in
    (c.self.view_is, subst (λ (a : Ahead). IsOneLine a.pending) c.self.view_is (one_line c.self.inside.buffer.items c.self.inside.next all))

pub returns-in-Some : goal.returns-in-Some
returns-in-Some c =
    let i = c.self.invariant in
    let b = c.self.inside.buffer.items in let searched = c.self.inside.searched in let more = c.in-Some.more in
    let found = subst (λ l. (more < length (take (length l - searched) (drop searched l))) × (get_or (take (length l - searched) (drop searched l)) more 0 ≡ 10)
    × ((k : ℕ) → k < more → get_or (take (length l - searched) (drop searched l)) k 0 ≢ 10)) c.deref.ensures.value c.in-Some.ensures in (
      sym (ap (λ (a : Ahead). a.pending) c.self.view_is) ∙ cut_parts b c.self.inside.next searched i.1 i.2 i.3 more found.0 found.1 found.2,
      cut_line b c.self.inside.next searched i.1 i.2 i.3 more found.0 found.1 found.2,
      ap (λ (a : Ahead). a.taken) c.self.view_is,
    )
