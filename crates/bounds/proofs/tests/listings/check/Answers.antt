use Rattle.std.proofs.Common.{is_ok, rules, sym, ap, ◌∙◌}
use Rattle.book.specs.Books.{book_answer}
use Rattle.book.specs.Text.{answer_text}
use Rattle.bounds.proofs.tests.listings.check.Goals as goal

pub returns : goal.returns
returns c =
    let read = c.as_flattened.ensures.value in
    let said = c.in_ok-answer.ensures in
    let parts = c.parts-is_listing.ensures in
    let same = c.if-is_listing-accepted.false in
    (sym (ap (λ b. is_ok (book_answer b)) read) ∙ search rules, sym (ap (λ b. answer_text (book_answer b)) read) ∙ search rules)
