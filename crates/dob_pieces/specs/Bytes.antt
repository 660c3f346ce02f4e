-- The ASCII bytes of the program's texts, by name.
use Rattle.std.specs.Prelude.{ℕ}

abbrev pub line_feed : ℕ
line_feed = 10

abbrev pub space : ℕ
space = 32

abbrev pub asterisk : ℕ
asterisk = 42

abbrev pub plus_sign : ℕ
plus_sign = 43

abbrev pub hyphen : ℕ
hyphen = 45

abbrev pub full_stop : ℕ
full_stop = 46

abbrev pub slash : ℕ
slash = 47

abbrev pub digit_zero : ℕ
digit_zero = 48

abbrev pub digit_one : ℕ
digit_one = 49

abbrev pub equals_sign : ℕ
equals_sign = 61

abbrev pub upper_c : ℕ
upper_c = 67

abbrev pub upper_e : ℕ
upper_e = 69

abbrev pub upper_g : ℕ
upper_g = 71

abbrev pub upper_h : ℕ
upper_h = 72

abbrev pub upper_l : ℕ
upper_l = 76

abbrev pub lower_a : ℕ
lower_a = 97

abbrev pub lower_h : ℕ
lower_h = 104

abbrev pub lower_x : ℕ
lower_x = 120
