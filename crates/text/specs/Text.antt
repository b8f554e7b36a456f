-- The octets of words, numbers as decimal digits, and what several texts are made of: times and refusals.
-- Assumes nothing.
use Rattle.std.specs.Prelude.{ℕ, zero, suc, ◌+◌, ◌/◌, ◌%◌, cond, List, [], ◌∷◌, ◌++◌, ltb, ℤ, pos, negsuc}
use Prim.Native.Char.{code}
use Prim.Native.String.{String, [] as ε, ◌∷◌ as ◌⊲◌}
use Rattle.layout.specs.declared.Refusal.{Refusal}

-- the octets of words in ASCII
abbrev pub ascii : String → List ℕ
ascii ε = []
ascii (c ⊲ s) = code c ∷ ascii s

-- ---- numbers

-- the digits of a number, the most significant first, at most so many
unfoldable pub digits_in : ℕ → ℕ → List ℕ
digits_in zero n = []
digits_in (suc most) n = cond (ltb n 10) ((48 + n) ∷ []) (digits_in most (n / 10) ++ ((48 + n % 10) ∷ []))

-- a number below 10 ^ 20 has at most 20 digits, and a machine's number of 64 bits is one
abbrev pub decimal : ℕ → List ℕ
decimal n = digits_in 20 n

-- a minus sign before the digits of a negative one
abbrev pub whole_number : ℤ → List ℕ
whole_number (pos n) = decimal n
whole_number (negsuc n) = 45 ∷ decimal (suc n)

-- a number with a space behind it, and one with a line end
abbrev pub spaced : ℕ → List ℕ
spaced n = decimal n ++ ascii " "

abbrev pub ended : ℕ → List ℕ
ended n = decimal n ++ ascii "\n"

-- ---- times and refusals

-- year, month, day, hour, minute, second, each with a space behind it
unfoldable pub time_text : ℤ → ℕ → ℕ → ℕ → ℕ → ℕ → List ℕ
time_text year month day hour minute second =
    whole_number year ++ (ascii " " ++ (spaced month ++ (spaced day ++ (spaced hour ++ (spaced minute ++ spaced second)))))

-- a line
abbrev pub refused_text : Refusal → List ℕ
refused_text x = ascii "refused " ++ (spaced x.number ++ (spaced x.section ++ ended x.place))
