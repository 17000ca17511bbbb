use Rattle.std.proofs.Common.{◌≡◌, ℕ, ◌+◌, ◌-◌, ◌≤◌, Some, List, length, get_or, take, sum as total, sym, subst, refl, ap, ◌∙◌, arith, rules}
use Rattle.tables.specs.Ranges.{smallest}
use Rattle.std.proofs.lemmas.List.FromFn.{length-map-range_with_len, get_or-map-range_with_len}
use Rattle.tables.specs.Tables.{at, row}
use Rattle.tables.proofs.Ranges.{smallest_same}
use Rattle.flows.specs.Views.{All, Fine}
use Rattle.stages.specs.ShaperViews.{shaping_view, shaping_views}
use Rattle.stages.proofs.Opens.{first_small}
use Rattle.stages.proofs.Shaping.{ticked, next_fine, held}
use Rattle.stages.proofs.shaper.Shaper.shape.Goals as goal

-- what the entries of a shaping table still allow
row_length : (n : ℕ) (f : ℕ → ℕ) (es : List ℕ) → es ≡ row n f → length es ≡ n
row_length n f es is = ap length is ∙ length-map-range_with_len f 1 n

allowed : (n : ℕ) (f : ℕ → ℕ) (es past : List ℕ) → 1 ≤ n → es ≡ row n f
    → smallest (length es - 1) (λ k. get_or es k 0 - total (take k past)) ≡ smallest (n - 1) (λ k. f (k + 1) - total (take k past))
allowed n f es past some is =
    ap (λ m. smallest (m - 1) (λ k. get_or es k 0 - total (take k past))) (row_length n f es is)
    ∙ smallest_same (n - 1) (λ k. get_or es k 0 - total (take k past)) (λ k. f (k + 1) - total (take k past))
    (λ k l. omega (arith, ap (λ xs. get_or xs k 0) is, get_or-map-range_with_len f 1 n k (k + 1) 0 (omega arith) (omega arith)))

pub room-allowed-requires : goal.room-allowed-requires
room-allowed-requires g c =
    let t = c.args.self.now.shaping in
    let long = row_length t.frame (at t) c.entries.result.now c.entries.ensures in
    record { some = omega (arith, long, t.some); few = omega (arith, long, t.few) }

pub overflow_add-all : goal.overflow_add-all
overflow_add-all g c =
    let s = c.args.self.now in
    let e = g.E.Flow in
    let few = first_small (e.pair s.events) (e.course s.events) (e.keeps s.events) in
    let wait = held e s c.in-Some.waiting c.in-Some.is in
    let small = s.small in
    let is = c.draw-arrived.ensures.count in
    search rules

pub overflow_cast-passed : goal.overflow_cast-passed
overflow_cast-passed g c =
    let s = c.args.self.now in
    let e = g.E.Flow in
    let few = first_small (e.pair s.events) (e.course s.events) (e.keeps s.events) in
    let wait = held e s c.in-Some.waiting c.in-Some.is in
    let small = s.small in
    let is = c.draw-arrived.ensures.count in
    let least = c.min-passed.ensures in
    let wide = c.from.ensures in
    search rules

pub invariant_of-self-clause-fine : goal.invariant_of-self-clause-fine
invariant_of-self-clause-fine g c =
    let s = c.args.self.now in
    let E = g.E.Flow in
    let a = c.draw-arrived.ensures in
    let w = c.in-Some.waiting in
    let p = c.min-passed.result in
    let all = w + c.draw-arrived.result in
    subst (λ past. All Fine (shaping_views E (Some (all - p)) past c.draw-arrived.new.self s.shaping s.bounds)) (sym c.put_first.ensures)
    (next_fine E s.events c.draw-arrived.new.self s.shaping s.bounds s.past w c.draw-arrived.result p
    record { count = a.count; next = a.next; same = a.same; views = a.views }
    (omega (arith, c.min-passed.ensures, c.from.ensures, c.room-allowed.ensures, allowed s.shaping.frame (at s.shaping) c.entries.result.now s.past s.shaping.some c.entries.ensures))
    (subst (λ o. All Fine (shaping_views E o s.past s.events s.shaping s.bounds)) c.in-Some.is s.fine))

pub returns : goal.returns
returns g c =
    let a = c.draw-arrived.ensures in
    let s = c.args.self.now in
    record {
      arrived = a.count ∙ ap (λ o. (shaping_view g.E.Flow o s.past s.events s.shaping s.bounds).arrived 0) (sym c.in-Some.is);
      ticked =
          ticked g.E.Flow s _ c.in-Some.waiting c.draw-arrived.result c.min-passed.result c.in-Some.is refl c.put_first.ensures
          record { count = a.count; next = a.next; same = a.same; views = a.views }
          (omega (arith, c.min-passed.ensures, c.from.ensures, c.room-allowed.ensures, allowed s.shaping.frame (at s.shaping) c.entries.result.now s.past s.shaping.some c.entries.ensures))
          refl refl;
    }
