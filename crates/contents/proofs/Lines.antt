-- What is printed of an accepted message, by the octets of its parts: each field that its groups leave in force has its line, with the real
-- year and the time that section 1's own octets say by the template that it follows.
-- Assumes nothing.
use Prim.Native.Nat.{ℕ, suc, ◌+◌}
use native.Mathlib.Nat.{add-zero, zero-add}
use native.Mathlib.Numerals.{add-one}
use native.Mathlib.Omega.{arith}
use mathlib.Core.Path.{◌≡◌, refl, ap, sym, subst, ◌∙◌}
use mathlib.Core.Bool.{true}
use mathlib.Core.List.{List, [], ◌∷◌, ◌++◌, map}
use lib.Dec.{eqb}
use lib.ListN.{length, get_or}
use Rattle.layout.specs.Fields.{placed, values_of}
use Rattle.layout.specs.Outcomes.{read}
use Rattle.layout.specs.Time.{time}
use Rattle.lent.specs.Rows.{in_turn}
use Rattle.identification.specs.Section1.{outcome₁, values₁, fields₁, origin, status_and_type}
use Rattle.identification.specs.Accepted.{Follows₁}
use Rattle.identification.specs.declared.Template.{Template}
use Rattle.identification.specs.declared.Template.TheVariants.{None as no_template, Calendar, Offset, CalendarAndOffset}
use Rattle.identification.proofs.AcceptedExactlyWhen.{follows-accepted}
use Rattle.message.specs.declared.Sections.{Sections}
use Rattle.message.specs.Walk.{Cut}
use Rattle.message.specs.Walk.{no_sections}
use Rattle.message.specs.Grammar.{Group, FirstComplete, Five, fields_of, AllFollow, FollowsMessage}
use Rattle.message.specs.Messages.{shown_in, field_of, read_message}
use Rattle.message.specs.Places.{places_in}
use Rattle.message.proofs.AcceptedExactlyWhen.{answer, count-is}
use Rattle.message.proofs.Shown.{frame-shown}
use Rattle.message.proofs.Views.{stands_at}
use Rattle.text.specs.Text.{ascii, ended}
use Rattle.contents.specs.Contents.{time_read, field_line, line_of, heading, accepted_text, contents_of, contents, time_at, line_at, lines_at, contents_at}

-- ---- the time

time-of-values : (template : Template) (s : List ℕ) → time_read (read (values₁ template s)) ≡ time_at template s
unfolding time_read values₁ values_of placed fields₁ origin time status_and_type
time-of-values no_template s = refl
time-of-values Calendar s = refl
time-of-values Offset s = refl
time-of-values CalendarAndOffset s = refl

abbrev Timed : Template → List ℕ → Type 0
Timed template s = time_read (outcome₁ s) ≡ time_at template s

timed : (template : Template) (s : List ℕ) → Follows₁ template s → Timed template s
timed template s f = ap time_read (follows-accepted template s f) ∙ time-of-values template s

-- every field has the message's section 1
unfoldable AllTimed : Template → List Five → Type 0
AllTimed template [] = Unit {0}
AllTimed template (x ∷ xs) = Timed template x.one × AllTimed template xs

all-timed : (template : Template) (one three : List ℕ) (gs : List Group) → Timed template one → AllTimed template (fields_of one three gs)
unfolding AllTimed fields_of
all-timed template one three [] t = tt
all-timed template one three (g ∷ gs) t = (t, all-timed template one _ gs t)

-- ---- the lines

line-timed : (template : Template) (number : ℕ) (x : Five) (f : Sections) → Timed template x.one → field_line number x f ≡ line_at template number x f
unfolding field_line
line-timed template number x f t = rw t refl

lines : (template : Template) (m : List ℕ) (c : Cut) (i : ℕ) (fs : List Sections) → ((j : ℕ) → field_of c (i + j) ≡ get_or fs j no_sections) → AllTimed template (map (shown_in m) fs)
    → in_turn (line_of m c) i (length fs) ≡ lines_at template i (map (shown_in m) fs) fs
unfolding in_turn lines_at AllTimed
lines template m c i [] same t = refl
lines template m c i (f ∷ fs) same t =
    let here : field_of c i ≡ f = ap (field_of c) (sym (add-zero i)) ∙ same 0 in
    let line = ap (λ (x : Sections). field_line (i + 1) (shown_in m x) x) here ∙ line-timed template (i + 1) (shown_in m f) f t.0 in
    let next = lines template m c (suc i) fs (λ j. ap (field_of c) (omega arith) ∙ same (suc j)) t.1 in
    (λ k. line k ++ next k)
    ∙ ap (λ (n : ℕ). line_at template (i + 1) (shown_in m f) f ++ lines_at template n (map (shown_in m) fs) fs) (sym (add-one i))

pub section-1-follows : (m : List ℕ) (x : FollowsMessage m) → (template : Template) × Follows₁ template x.parts.one
unfolding AllFollow fields_of
section-1-follows m x = first x.parts.groups x.frame.first x.fields
  where
    first : (gs : List Group) → FirstComplete gs → AllFollow (fields_of x.parts.one [] gs) → (template : Template) × Follows₁ template x.parts.one
    first [] c a = absurd c
    first (g ∷ gs) c a = a.0.identified

-- ---- the message

pub accepted-told : (m : List ℕ) (x : FollowsMessage m) → (template : Template) × Follows₁ template x.parts.one × (contents m ≡ contents_at template x.parts)
unfolding contents contents_of accepted_text
accepted-told m x =
    let p = x.parts in
    let f = section-1-follows m x in
    let c = read_message m in
    let shown = frame-shown m p x.frame in
    let times = subst (AllTimed f.0) (sym shown) (all-timed f.0 p.one [] p.groups (timed f.0 p.one f.1)) in
    let accepted : eqb c.refusal.number 0 ≡ true = ap (λ (y : Cut). eqb y.refusal.number 0) (answer m x) in
    let all = ap (in_turn (line_of m c) 0) (ap (λ (y : Cut). y.count) (answer m x)) ∙ lines f.0 m c 0 (places_in p) (λ j. ap (field_of c) (zero-add j) ∙ stands_at m x j) times ∙ ap (λ (xs : List Five). lines_at f.0 0 xs (places_in p)) shown in
    (f.0, f.1, rw accepted (λ i. heading ++ (all i ++ (ascii "fields " ++ ended (count-is m x i)))))
