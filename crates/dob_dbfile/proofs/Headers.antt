-- What the tests say of the first bytes they say of all of them.
use Rattle.dob_dbfile.proofs.Common.{◌++◌, ◌+◌, ◌-◌, ◌<◌, ◌∙◌, ◌≡◌, ◌≤◌, ◌⊎◌, List, ap, arith, drop, false, inl, inr, length, length-drop, length-take-le, refl, rules, subst}
use Rattle.dob_dbfile.proofs.Common.{sym, take, take_all, ℕ, drop-take, drop_at, length-append, take_at, PieceSet, Family, Profile, family_of, GivesFirst}
use Rattle.dob_dbfile.proofs.Common.{Stream, after, CountsClasses, HasHeader, HasHeaderFault, HasTitle, NamesClasses, NamesFamily, NamesSet, SaysProfile}
use Rattle.dob_dbfile.proofs.Common.{count_place, header_len, HasFrontFault, GivesFewer, TakesBytes, Fault, Format, First, Second, put_mid}
use Rattle.std.proofs.lemmas.List.{take-take}
use Rattle.dob_device.proofs.Streams.{filled_more}
use Rattle.dob_dbfile.specs.Faults.{is_io}
use Rattle.dob_dbfile.specs.declared.fault.Fault.TheVariants as fault

-- the number of classes stands in the header's last eight bytes
pub count_last : (format : Format) → count_place format + 8 ≡ header_len format
count_last First = omega arith
count_last Second = omega arith

pub header_long : (format : Format) → 20 ≤ header_len format
header_long First = omega arith
header_long Second = omega arith

pub header_short : (format : Format) → header_len format ≤ 21
header_short First = omega arith
header_short Second = omega arith

-- a part of the first bytes is that part of all
part : (at count n : ℕ) (bytes : List ℕ) → at + count ≤ n → take count (drop at (take n bytes)) ≡ take count (drop at bytes)
part at count n bytes within =
    let split : n ≡ at + (n - at) = omega (arith, within) in
    ap (λ (m : ℕ). take count (drop at (take m bytes))) split
    ∙ ap (take count) (drop-take at (n - at) bytes)
    ∙ take-take count (n - at) (drop at bytes) (omega (arith, within))

-- ---- the first n bytes, twenty or more

module _ (n : ℕ) (bytes : List ℕ) (long : 20 ≤ n) (there : n ≤ length bytes) where
  len : length (take n bytes) ≡ n
  len = length-take-le n bytes there

  title_lifts : (format : Format) → HasTitle format (take n bytes) → HasTitle format bytes
  title_lifts format has = (omega (arith, long, there), sym (take-take 8 n bytes (omega (arith, long))) ∙ has.1)

  title_falls : (format : Format) → HasTitle format bytes → HasTitle format (take n bytes)
  title_falls format has = (let is = len in omega (arith, long, is), take-take 8 n bytes (omega (arith, long)) ∙ has.1)

  pub set_lifts : (format : Format) (set : PieceSet) → NamesSet format set (take n bytes) → NamesSet format set bytes
  set_lifts format set names = (title_lifts format names.0, sym (part 8 4 n bytes (omega (arith, long))) ∙ names.1)

  set_falls : (format : Format) (set : PieceSet) → NamesSet format set bytes → NamesSet format set (take n bytes)
  set_falls format set names = (title_falls format names.0, part 8 4 n bytes (omega (arith, long)) ∙ names.1)

  header_lifts : (format : Format) (set : PieceSet) → HasHeader format set (take n bytes) → HasHeader format set bytes
  header_lifts format set has =
      let is = len in
      let le : header_len format ≤ length (take n bytes) = has.1 in
      (set_lifts format set has.0, omega (arith, is, le, there))

  header_falls : (format : Format) (set : PieceSet) → header_len format ≤ n → HasHeader format set bytes → HasHeader format set (take n bytes)
  header_falls format set fits has = (set_falls format set has.0, let is = len in omega (arith, is, fits))

  profile_lifts : (format : Format) (profile : Profile) → SaysProfile format profile (take n bytes) → SaysProfile format profile bytes
  profile_lifts First profile says = says
  profile_lifts Second profile says = sym (part 12 1 n bytes (omega (arith, long))) ∙ says

  profile_falls : (format : Format) (profile : Profile) → SaysProfile format profile bytes → SaysProfile format profile (take n bytes)
  profile_falls First profile says = says
  profile_falls Second profile says = part 12 1 n bytes (omega (arith, long)) ∙ says

  pub family_lifts : (format : Format) (family : Family) → NamesFamily format family (take n bytes) → NamesFamily format family bytes
  family_lifts format family names = (header_lifts format family.set names.0, profile_lifts format family.profile names.1)

  family_falls : (format : Format) (family : Family) → header_len format ≤ n → NamesFamily format family bytes → NamesFamily format family (take n bytes)
  family_falls format family fits names = (header_falls format family.set fits names.0, profile_falls format family.profile names.1)

  pub count_part : (format : Format) → header_len format ≤ n → take 8 (drop (count_place format) (take n bytes)) ≡ take 8 (drop (count_place format) bytes)
  count_part format fits = let last = count_last format in part (count_place format) 8 n bytes (omega (arith, last, fits))

  fits_in : (format : Format) (set : PieceSet) → HasHeader format set (take n bytes) → header_len format ≤ n
  fits_in format set has =
      let le : header_len format ≤ length (take n bytes) = has.1 in
      omega (arith, len, le)

  pub counts_lifts : (format : Format) (family : Family) → CountsClasses format family (take n bytes) → CountsClasses format family bytes
  counts_lifts format family counts =
      (family_lifts format family counts.0, sym (count_part format (fits_in format family.set counts.0.0)) ∙ counts.1)

  pub names_lift : NamesClasses (take n bytes) → NamesClasses bytes
  names_lift names = (names.0, names.1, counts_lifts names.0 names.1 names.2)

  pub counts_falls : (format : Format) (family : Family) → header_len format ≤ n → CountsClasses format family bytes → CountsClasses format family (take n bytes)
  counts_falls format family fits counts =
      (family_falls format family fits counts.0, count_part format fits ∙ counts.1)

  pub fault_lifts : (given : Fault) → HasHeaderFault (take n bytes) given → HasHeaderFault bytes given
  fault_lifts fault.Magic wrong = (omega (arith, long, there), λ format has. wrong.1 format (title_falls format has))
  fault_lifts fault.SetByte wrong = (wrong.0, title_lifts wrong.0 wrong.1, λ set names. wrong.2 set (set_falls wrong.0 set names))
  fault_lifts fault.ProfileByte wrong = (
    wrong.0,
    wrong.1,
    header_lifts wrong.0 wrong.1 wrong.2,
    λ profile names. wrong.3 profile (family_falls wrong.0 (family_of wrong.1 profile) (fits_in wrong.0 wrong.1 wrong.2) names),
  )
  fault_lifts fault.ClassCount wrong = (
    wrong.0,
    wrong.1,
    family_lifts wrong.0 wrong.1 wrong.2,
    λ counts. wrong.3 (counts_falls wrong.0 wrong.1 (fits_in wrong.0 wrong.1.set wrong.2.0) counts),
  )
  fault_lifts _ wrong = absurd wrong

-- ---- faults of the header as those of the stream

-- what holds of the four faults that a header may have holds of the one that it has
pub by_fault : (bytes : List ℕ) (Holds : Fault → Type 0) → (HasHeaderFault bytes fault.Magic → Holds fault.Magic)
    → (HasHeaderFault bytes fault.SetByte → Holds fault.SetByte) → (HasHeaderFault bytes fault.ProfileByte → Holds fault.ProfileByte)
    → (HasHeaderFault bytes fault.ClassCount → Holds fault.ClassCount) → (given : Fault) → HasHeaderFault bytes given → Holds given
by_fault bytes Holds magic set profile count fault.Magic wrong = magic wrong
by_fault bytes Holds magic set profile count fault.SetByte wrong = set wrong
by_fault bytes Holds magic set profile count fault.ProfileByte wrong = profile wrong
by_fault bytes Holds magic set profile count fault.ClassCount wrong = count wrong
by_fault bytes Holds magic set profile count _ wrong = absurd wrong

-- no test of a header is a failure of the source, nor is want of memory
pub no_failure : (bytes : List ℕ) (given : Fault) → (given ≡ fault.Memory) ⊎ HasHeaderFault bytes given → is_io given ≡ false
no_failure bytes given (inl memory) = ap is_io memory
no_failure bytes given (inr wrong) = by_fault bytes (λ f. is_io f ≡ false) (λ _. refl) (λ _. refl) (λ _. refl) (λ _. refl) given wrong

pub front_refused : (stream : Stream) (given : Fault) → HasHeaderFault stream.bytes given → HasFrontFault stream given
front_refused stream = by_fault stream.bytes (HasFrontFault stream) (λ wrong. wrong) (λ wrong. wrong) (λ wrong. wrong) (λ wrong. wrong)

-- a header that is cut short where its set is known
none_there : (stream : Stream) (format : Format) (set : PieceSet) (wanted : ℕ) → NamesSet format set stream.bytes → 20 + wanted ≡ header_len format
    → length (drop 20 stream.bytes) < wanted → ¬ HasHeader format set stream.bytes
none_there stream format set wanted names fits cut has =
    let there : 20 ≤ length stream.bytes = names.0.0 in
    let le : header_len format ≤ length stream.bytes = has.1 in
    omega (arith, le, fits, cut, there, length-drop 20 stream.bytes)

pub front_cut : (stream : Stream) (format : Format) (set : PieceSet) (wanted : ℕ) (given : Fault) → NamesSet format set stream.bytes
    → 20 + wanted ≡ header_len format → GivesFewer wanted 20 (after 20 stream) given → (given ≡ fault.Memory → ⊥) → HasFrontFault stream given
front_cut stream format set wanted fault.Truncated names fits cut known =
    (inr (format, set, names, none_there stream format set wanted names fits cut.0), cut.1)
front_cut stream format set wanted (fault.Io count) names fits cut known =
    let there : 20 ≤ length stream.bytes = names.0.0 in
    (inr (format, set, names, none_there stream format set wanted names fits cut.0), cut.1, omega (arith, cut.2, there, length-drop 20 stream.bytes))
front_cut stream format set wanted fault.Memory names fits cut known = absurd (known refl)
front_cut stream format set wanted _ names fits cut known = absurd cut

-- ---- a header that comes in two pieces

-- the second piece has what the first one lacks
more_len : (size h : ℕ) (front room more : List ℕ) → length room ≡ 21 → length front ≡ 20 → h ≡ size → 20 ≤ size → size ≤ 21
    → length more ≡ length (take (h - 20) (drop 20 (front ++ drop 20 room))) → 20 + length more ≡ size
more_len size h front room more long twenty same least most taken =
    let rest : drop 20 (front ++ drop 20 room) ≡ drop 20 room = drop_at front (drop 20 room) 20 twenty in
    let one : length (drop 20 (front ++ drop 20 room)) ≡ length room - 20 = ap length rest ∙ length-drop 20 room in
    let cut : length (take (h - 20) (drop 20 (front ++ drop 20 room))) ≡ h - 20
    = length-take-le (h - 20) (drop 20 (front ++ drop 20 room)) (omega (arith, one, long, same, most)) in
    omega (arith, taken, cut, same, least)

filled : (stream : Stream) (size k : ℕ) (front rest more : List ℕ) → length front ≡ 20 → TakesBytes stream front
    → TakesBytes (after 20 stream) more → 20 + length more ≡ size
    → (size ≤ length stream.bytes) × (take size (put_mid 20 k (front ++ rest) more) ≡ take size stream.bytes)
filled stream size k front rest more twenty first second sum =
    let there : 20 ≤ length stream.bytes = omega (arith, twenty, first.within) in
    let room : 20 ≤ length (front ++ rest) = (let all : length (front ++ rest) ≡ length front + length rest = length-append front rest in omega (arith, all, twenty)) in
    let gave : GivesFirst (after 20 stream) (length more) more = record {
      within = second.within;
      same = take_all (length more) more (omega arith) ∙ second.same;
      end = λ none some. absurd (omega (arith, none, some));
    } in
    let start : take 20 (front ++ rest) ≡ take 20 stream.bytes =
    take_at front rest 20 twenty ∙ first.same ∙ ap (λ (n : ℕ). take n stream.bytes) twenty in
    let both = filled_more stream 20 (length more) k (front ++ rest) more room (omega arith) there start gave in
    subst (λ (n : ℕ). (n ≤ length stream.bytes) × (take n (put_mid 20 k (front ++ rest) more) ≡ take n stream.bytes)) sum both

-- the room's front is the whole header
pub record HasCome (stream : Stream) (format : Format) (room more : List ℕ) : Type 0 where
  pub there : header_len format ≤ length stream.bytes
  pub same : take (header_len format) room ≡ take (header_len format) stream.bytes
  pub counted : 20 + length more ≡ header_len format

pub header_came : (stream : Stream) (format : Format) (h : ℕ) (front room more : List ℕ) → length room ≡ 21 → length front ≡ length (take 20 room)
    → h ≡ header_len format → length more ≡ length (take (h - 20) (drop 20 (front ++ drop 20 room))) → TakesBytes stream front
    → TakesBytes (after 20 stream) more → HasCome stream format (put_mid 20 (h - 20) (front ++ drop 20 room) more) more
header_came stream format h front room more long taken same rest first second =
    let twenty : length front ≡ 20 = taken ∙ length-take-le 20 room (omega (arith, long)) in
    let sum : 20 + length more ≡ header_len format
    = more_len (header_len format) h front room more long twenty same (header_long format) (header_short format) rest in
    let both = filled stream (header_len format) (h - 20) front (drop 20 room) more twenty first second sum in
    record { there = both.0; same = both.1; counted = sum }

-- the first bytes of a stream
pub takes_front : (stream : Stream) (size : ℕ) (room : List ℕ) → size ≤ length stream.bytes → room ≡ take size stream.bytes → TakesBytes stream room
takes_front stream size room there is = search rules

-- the last eight bytes
pub last_count : (at size len : ℕ) (header : List ℕ) → length header ≡ len → size ≡ len → at + 8 ≡ len
    → take (length header - (size - 8)) (drop (size - 8) header) ≡ take 8 (drop at header)
last_count at size len header long same is = grind arith
