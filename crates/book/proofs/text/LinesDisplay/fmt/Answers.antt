use Rattle.std.proofs.Common.{ℕ, ◌+◌, true, List, map, get_or, refl, ap}
use Rattle.std.proofs.Output.{has_written_of_eq}
use Rattle.book.specs.Chains.{staged}
use Rattle.book.specs.Text.{line_text, lines_text}
use Rattle.book.specs.declared.line.Line.{Line}
use Rattle.book.proofs.Items.{put_item}
use Rattle.book.proofs.text.LinesDisplay.fmt.Goals as goal

abbrev one : ℕ → Line → List ℕ
one n l = line_text n (staged l)

abbrev all : ℕ → List Line → List ℕ
all n ls = lines_text n (map staged ls)

pub loop-i-preserved : goal.loop-i-preserved
loop-i-preserved g c = λ plain.
    let before = c.loop-i.invariant plain in
    let l = c.line-item.result in
    let here = c.in_ok-fmt.ensures.writes before.plain (refl {a = true}) in
    put_item all one (λ _. refl) (λ _ x xs. refl)
    g.W.Write.write_str_gives c.args.f.now c.loop-i.f 2 c.args.self.now.0.now c.loop-i.i
    c.fmt.new.f l c.loop-i-test.true before
    (has_written_of_eq g.W.Write.write_str_gives c.loop-i.f (one (2 + c.loop-i.i) l) (one (2 + c.loop-i.i) (get_or c.args.self.now.0.now c.loop-i.i l)) c.fmt.new.f (ap (one (2 + c.loop-i.i)) c.line-item.is) here)
