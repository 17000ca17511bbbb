use Rattle.std.proofs.Common.{true, ◌∷◌, decimal, refl}
use Rattle.book.specs.Text.{spaced}
use Rattle.book.proofs.Items.{put_item}
use Rattle.book.proofs.text.RowDisplay.fmt.Goals as goal

pub loop-count-preserved : goal.loop-count-preserved
loop-count-preserved g c = λ plain.
    let before = c.loop-count.invariant plain in
    put_item (λ _. spaced) (λ _ x. 32 ∷ decimal x) (λ _. refl) (λ _ x xs. refl)
    g.W.Write.write_str_gives c.args.f.now c.loop-count.f 0 c.args.self.now.0.now c.loop-count.count-index
    c.write.new.self 0 c.loop-count-test.true before (c.in_ok-write.ensures.writes before.plain (refl {a = true}))
