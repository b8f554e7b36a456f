-- Demand 2 of whole messages (request 02). The definitions in it: the grammar and `FollowsMessage` (`message/specs/Grammar.antt`), where sections stand
-- (`Places.antt`, `Covering.antt`), what is wrong at the first place met (`FirstPlace.antt`), and what is answered and shown (`Messages.antt`). The contract
-- of `message::read` is `told r ≡ read_message m` (`Entries.antt`), so a theorem with that premise is about every answer `r` that it allows: `told r` is what
-- it says of the message, and `section` and `field_of` show what these theorems say, since their contracts are by `told r` too.
-- Assumes nothing.

-- "section 0 (GRIB, edition 2 in octet 8, total length in 9-16), section 1, then groups ..; then 7777": `IsFrame`, with the marks octet by octet; and
-- one message is these in one way only
pub use Rattle.message.proofs.Marks.{start-mark, end_mark}
pub use Rattle.message.proofs.Unambiguous.{unambiguous}
-- "Demand 2 then covers the message as well, without a gap": section 0, all sections (2 and 6 too) and the last four octets strung together are
-- the message, they stand at their places, and there each octet is in one of them
pub use Rattle.message.proofs.CoveredOnce.{parts-strung, parts-shown, covered-once}
-- "2, too long, first; 22, under 20 octets or start, edition or total length wrong"
pub use Rattle.message.proofs.FirstPlace.{too_long, wrong_start}
-- "then 23 to 25 at the first place met, the lower first": behind sections that are as they should be (`Reached`) no section stands, or one out of
-- order, another section 6, or one after the 16th field; or the last four octets stand, behind another section than a 7, or they are not 7777
pub use Rattle.message.proofs.FirstPlace.{no-section, out_of_order, another-six, after-the-16th, section-missing, not-7777}
-- "then 01's for the first field refused, which refuses the message": what has no frame is refused with a number of the frame, whatever its fields
-- would be, and what has one never is, but as its first field refused is
pub use Rattle.message.proofs.RefusalNumbers.{no-frame, with-frame}
pub use Rattle.message.proofs.FrameAndFields.{frame-and-fields, first-field-refused}
-- what C is told: exactly when, and by field
pub use Rattle.skogmund.proofs.Answered.{message-exactly-when, message-left, message-spans}
-- and what dispatch is printed: of an accepted message its fields by their octets, in their order; of any other its refusal, and nothing else
pub use Rattle.contents.proofs.Lines.{accepted-told}
pub use Rattle.contents.proofs.Refused.{refused-told}
-- The rest are the theorems of this file.
use Prim.Native.Nat.{ℕ, ◌*◌, ◌≤◌, ◌<◌}
use mathlib.Core.Path.{◌≡◌, refl, sym, ap, subst, ◌∙◌}
use mathlib.Core.Logic.{◌↔◌}
use mathlib.Core.List.{List, [], ◌∷◌}
use mathlib.Core.Bool.{false}
use lib.ListN.{length, take, drop, get_or}
use borrow.Author.Tests.{ne_eqb}
use Rattle.std.specs.Prelude.{Result, Ok}
use Rattle.octets.specs.Octets.{part}
use Rattle.layout.specs.Spans.{octets_in, Within}
use Rattle.layout.specs.Refusals.{one_of, Listed}
use Rattle.layout.specs.declared.Span.{Span}
use Rattle.layout.specs.declared.Refusal.{Refusal}
use Rattle.layout.proofs.Refusals.{never-listed}
use Rattle.field.specs.Accepted.{FollowsField}
use Rattle.message.specs.declared.Fields.{Fields}
use Rattle.message.specs.Walk.{Cut, told}
use Rattle.message.specs.Grammar.{Group, Five, no_five, Follows, three_after, Parts, behind_zero, fields_in, IsFrame, FollowsMessage}
use Rattle.message.specs.Messages.{shown_in, field_of, section_in, read_message, Accepted}
use Rattle.message.specs.Places.{places_in, fields_found, FieldWithin}
use Rattle.message.specs.Covering.{sevens_in}
use Rattle.message.specs.Refused.{message_table, Decided}
use Rattle.message.proofs.AcceptedExactlyWhen.{accepted-exactly-when, answer, count-is}
use Rattle.message.proofs.CoveredOnce.{count-is-sevens}
use Rattle.message.proofs.Views.{sections-by-number, none-past, none-of-five, field-shown, field-follows, field-within}
use Rattle.message.proofs.FrameAndFields.{one_field}
use Rattle.message.proofs.RefusalNumbers.{message-refuses, accepted-is-0, few-fields}
use Rattle.message.proofs.AnswersDetermined.{determined, ok-exactly-when}
use Rattle.skogmund.specs.Entries.{code_of}
use Rattle.skogmund.specs.Parts.{first_octet}
use Rattle.skogmund.specs.Messages.{message_told}
use Rattle.skogmund.proofs.Answered.{message-spans}
use Rattle.demands.proofs.Demand2.{octets-told}

-- ---- of every answer that the contract allows

module _ (m : List ℕ) (r : Result Fields Refusal) (said : told r ≡ read_message m) where
  -- "accepted exactly when": it follows the grammar, and each field that its groups leave in force follows; the answer's refusal then has the number 0
  pub message-accepted : Accepted (told r) ↔ FollowsMessage m
  message-accepted = let w = accepted-exactly-when m in ((λ x. w.0 (subst Accepted said x)), (λ f. subst Accepted (sym said) (w.1 f)))

  -- and in a program's terms: it is Ok
  pub message-ok : ((f : Fields) × (r ≡ Ok f)) ↔ FollowsMessage m
  message-ok = ok-exactly-when m r said

  pub message-number-0 : Accepted (told r) ↔ ((told r).refusal.number ≡ 0)
  message-number-0 = subst (λ (c : Cut). Accepted c ↔ (c.refusal.number ≡ 0)) (sym said) (accepted-is-0 m)

  -- with a right frame, a message of one group is accepted exactly when its field follows
  pub message-of-one : (p : Parts) (g : Group) → IsFrame m p → p.groups ≡ g ∷ [] → Accepted (told r) ↔ FollowsField p.one (three_after [] g.opening) g.four g.five g.seven
  message-of-one p g f e = let w = one_field m p g f e in ((λ x. w.0 (subst Accepted said x)), (λ y. subst Accepted (sym said) (w.1 y)))

  -- "1 to 16 fields", as many as sections 7
  pub message-fields-few : Accepted (told r) → (1 ≤ (told r).count) × ((told r).count ≤ 16)
  message-fields-few x = (x, subst (λ (c : Cut). c.count ≤ 16) (sym said) (few-fields m))

  pub message-count : (x : FollowsMessage m) → ((told r).count ≡ sevens_in (behind_zero x.parts)) × ((told r).count ≡ length x.parts.groups)
  message-count x = let same = ap (λ (c : Cut). c.count) said in (same ∙ count-is-sevens m x, same ∙ count-is m x)

  -- "It yields each field's sections as parts of the message, in order": field by field where its sections stand, group after group
  pub message-fields : (x : FollowsMessage m) → told r ≡ fields_found (places_in x.parts)
  message-fields x = said ∙ answer m x

  -- a section of the k-th field is that of the k-th group, or, "what isn't repeated staying in force", of the last group before it that has one
  pub message-sections : (x : FollowsMessage m) (k : ℕ) → let f = get_or (fields_in x.parts) k no_five in
      (section_in m (told r) k 1 ≡ f.one) × (section_in m (told r) k 3 ≡ f.three) × (section_in m (told r) k 4 ≡ f.four) × (section_in m (told r) k 5 ≡ f.five) × (section_in m (told r) k 7 ≡ f.seven)
  message-sections x k =
      let f = get_or (fields_in x.parts) k no_five in
      subst (λ (c : Cut). (section_in m c k 1 ≡ f.one) × (section_in m c k 3 ≡ f.three) × (section_in m c k 4 ≡ f.four) × (section_in m c k 5 ≡ f.five) × (section_in m c k 7 ≡ f.seven)) (sym said) (sections-by-number m x k)

  -- past the last field, and so of a refused message, whose answer has none, no octets are shown, nor for a number that is none of the five
  pub message-none : (k n : ℕ) → (told r).count ≤ k → section_in m (told r) k n ≡ []
  message-none k n h = none-past m (told r) k n h

  pub message-none-of-five : (k n : ℕ) → one_of (1 ∷ 3 ∷ 4 ∷ 5 ∷ 7 ∷ []) n ≡ false → section_in m (told r) k n ≡ []
  message-none-of-five k n h = none-of-five m (told r) k n h

  -- each field that is shown follows, so that what is read of its sections is what their octets mean (`field-by-name`)
  pub message-field-follows : (k : ℕ) → k < (told r).count → Follows (shown_in m (field_of (told r) k))
  message-field-follows k h = subst (λ (c : Cut). k < c.count → Follows (shown_in m (field_of c k))) (sym said) (field-follows m k) h

  -- where its sections stand, the message has all of their octets
  pub message-within : (k : ℕ) → FieldWithin (field_of (told r) k) m
  message-within k = subst (λ (c : Cut). FieldWithin (field_of c k) m) (sym said) (field-within m k)

  -- refusals are those of the table; 17 is none of them
  pub message-decided : Decided message_table (told r)
  message-decided = subst (Decided message_table) (sym said) (message-refuses m)

  -- any two answers are one
  pub one-message : (q : Result Fields Refusal) → told q ≡ read_message m → r ≡ q
  one-message q e = determined m r q said e

pub seventeen-never : (x : Refusal) → Listed message_table x → x.number ≡ 17 → ⊥
seventeen-never x l e = never-listed 17 message_table x.section refl (rw e at l.listed)

-- ---- for C

-- a refused message is told by its refusal's number, section and place, also where there is no room
pub message-hands-on : (m spans places : List ℕ) → ((read_message m).refusal.number ≡ 0 → ⊥) → (message_told m spans places).answer ≡ code_of (read_message m).refusal
unfolding message_told
message-hands-on m spans places h = rw (ne_eqb (read_message m).refusal.number 0 h) refl

-- first octet and length of a section that stands within a message: from that octet on, so many, are its octets
span-told : (m : List ℕ) (x : Span) → Within x m → part m (first_octet x) x.length ≡ octets_in x m
span-told m x w = octets-told x.before x.length m w

-- so the ten numbers that C is told of the k-th field, from 0, are those of sections 1, 3, 4, 5 and 7 in this order
pub message-sections-told : (m spans places : List ℕ) → (message_told m spans places).answer ≡ 0 → (x : FollowsMessage m) (k : ℕ) → k < (read_message m).count
    → let told = take 10 (drop (10 * k) (message_told m spans places).lent.0) in let f = get_or (fields_in x.parts) k no_five in
    (part m (get_or told 0 0) (get_or told 1 0) ≡ f.one) × (part m (get_or told 2 0) (get_or told 3 0) ≡ f.three) × (part m (get_or told 4 0) (get_or told 5 0) ≡ f.four)
    × (part m (get_or told 6 0) (get_or told 7 0) ≡ f.five) × (part m (get_or told 8 0) (get_or told 9 0) ≡ f.seven)
message-sections-told m spans places e x k h =
    let w = field-within m k in
    let s = field_of (read_message m) k in
    let shown = field-shown m x k in
    rw ((message-spans m spans places e).0 k h) (
      span-told m s.one w.one ∙ ap (λ (y : Five). y.one) shown,
      span-told m s.three w.three ∙ ap (λ (y : Five). y.three) shown,
      span-told m s.four w.four ∙ ap (λ (y : Five). y.four) shown,
      span-told m s.five w.five ∙ ap (λ (y : Five). y.five) shown,
      span-told m s.seven w.seven ∙ ap (λ (y : Five). y.seven) shown,
    )
