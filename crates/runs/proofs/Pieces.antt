-- Parts of an in-list and of an out-list that reach no further than the list.
use Rattle.std.proofs.Common.{◌≡◌, ℕ, ◌+◌, ◌-◌, ◌≤◌, min, List, length, take, drop, Result, sym, refl, ap, ◌∙◌, subst, inl, inr, arith, length-append, length-drop, length-take}
use borrow.Rule.Slice.PartMut.{put_mid}
use Rattle.std.proofs.lemmas.List.{take_all, drop_all}
use Rattle.std.proofs.lemmas.Slice.{between-put_mid, take-put_mid_below, drop-put_mid}
use Rattle.std.proofs.lemmas.Bool.{cases_lt}
use Rattle.tables.specs.declared.refusal.Refusal.{Refusal}
use Rattle.flows.specs.declared.flow.Flow as flow
use Rattle.stages.specs.declared.stage.Counts.{Counts}
use Rattle.stages.specs.declared.stage.Stage as stage
use Rattle.runs.specs.declared.calls.Call.{Call}
use Rattle.runs.specs.declared.calls.Call.TheVariants.{Carry}
use Rattle.runs.specs.declared.calls.Done.{Done}
use Rattle.runs.specs.Runs.{State, Carried}
use Rattle.runs.specs.Calls.{part, past_carry, Called}

pub clamped : {X : Type 0} (xs : List X) (n k : ℕ) → k ≡ min n (length xs) → take k xs ≡ take n xs
clamped xs n k e =
    elim (cases_lt n (length xs)) [
      | inl l ↦ let is : k ≡ n = omega (arith, e) in ap (λ j. take j xs) is
      | inr r ↦ take_all k xs (omega (arith, e)) ∙ sym (take_all n xs r)
    ]

pub part_clamped : {X : Type 0} (xs : List X) (from n k : ℕ) → from ≤ length xs → k ≡ min n (length xs - from) → take ((from + k) - from) (drop from xs) ≡ part xs from n
part_clamped xs from n k l e =
    let is : (from + k) - from ≡ k = omega arith in
    ap (λ j. take j (drop from xs)) is ∙ clamped (drop from xs) n k (omega (arith, e, length-drop from xs))

pub part_long : {X : Type 0} (xs : List X) (from n k : ℕ) → from ≤ length xs → k ≡ min n (length xs - from) → length (take ((from + k) - from) (drop from xs)) ≡ (from + k) - from
part_long xs from n k l e = omega (arith, e, length-take ((from + k) - from) (drop from xs), length-drop from xs)

module _ {X : Type 0} (xs ys : List X) (from n k : ℕ) (l : from ≤ length xs) (e : k ≡ min n (length xs - from)) (same : length ys ≡ (from + k) - from) where
  abbrev after : List X
  after = put_mid from ((from + k) - from) xs ys

  pub put_long : length after ≡ length xs
  put_long = simp (length-append, length-take, length-drop) (omega (arith, same, e))

  pub put_part : part after from n ≡ ys
  put_part = sym (part_clamped after from n k (omega (arith, put_long)) (omega (arith, e, put_long))) ∙ between-put_mid from ((from + k) - from) xs ys (from + k) l same

  pub put_before : take from after ≡ take from xs
  put_before = take-put_mid_below from ((from + k) - from) xs ys from (omega arith) l

  pub put_behind : drop (from + n) after ≡ drop (from + n) xs
  put_behind =
      elim (cases_lt (length xs) (from + n)) [
        | inl h ↦ drop_all (from + n) after (omega (arith, put_long)) ∙ sym (drop_all (from + n) xs (omega arith))
        | inr h ↦ drop-put_mid from ((from + k) - from) xs ys (from + n) (omega (arith, e)) l same
      ]

-- a part of a list has no more than the list from there on
pub part_few : {X : Type 0} (xs : List X) (from n k : ℕ) → from ≤ length xs → k ≤ length (take n (drop from xs)) → from + k ≤ length xs
part_few xs from n k l h = omega (arith, h, length-take n (drop from xs), length-drop from xs)

-- a carry of the parts, as a call of a list
pub carry_done : {X M : Type 0} (F : flow.Ghosts X) (P : stage.Ghosts X) (ins outs ys : List M) (s t : State F P M) (call : Call) (n m k j : ℕ) (d : Done) (a : Result Counts Refusal) → call ≡ Carry n m
    → d.taken ≤ length ins → d.given ≤ length outs → k ≡ min n (length ins - d.taken) → j ≡ min m (length outs - d.given) → length ys ≡ (d.given + j) - d.given
    → Carried F P s t (take ((d.taken + k) - d.taken) (drop d.taken ins)) (take ((d.given + j) - d.given) (drop d.given outs)) ys a
    → Called F P ins call (record { state = s; outs = outs; done = d }) (record { state = t; outs = put_mid d.given ((d.given + j) - d.given) outs ys; done = past_carry a d })
carry_done F P ins outs ys s t call n m k j d a is li lo ek ej same w =
    let ei = part_clamped ins d.taken n k li ek in
    let eo = part_clamped outs d.given m j lo ej in
    subst (λ x. Called F P ins x (record { state = s; outs = outs; done = d }) (record { state = t; outs = put_mid d.given ((d.given + j) - d.given) outs ys; done = past_carry a d })) (sym is)
    (record {
      answer = a;
      carried = subst (λ zs. Carried F P s t (part ins d.taken n) (part outs d.given m) zs a) (sym (put_part outs ys d.given m j lo ej same))
          (subst (λ zs. Carried F P s t (part ins d.taken n) zs ys a) eo (subst (λ zs. Carried F P s t zs (take ((d.given + j) - d.given) (drop d.given outs)) ys a) ei w));
      before = put_before outs ys d.given m j lo ej same;
      behind = put_behind outs ys d.given m j lo ej same;
      long = put_long outs ys d.given m j lo ej same;
      done = refl;
    })
