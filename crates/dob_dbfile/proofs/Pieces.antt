-- What is read piece after piece: codes, and the end of a file.
use Rattle.dob_dbfile.proofs.Common.{◌*◌, ◌++◌, ◌+◌, ◌-◌, ◌∙◌, ◌≡◌, ◌≤◌, ◌||◌, Bool, List, [], ap, append-nil, append_assoc, arith, drop, false, length, length-drop}
use Rattle.dob_dbfile.proofs.Common.{length-take, min, or-false, rules, subst, sym, take, take-add, take_all, ℕ, min-le_left, length-append, flat_map-append, little_bytes}
use Rattle.dob_dbfile.proofs.Common.{Holds256, sha256, Stream, after, whole, code_bytes, EndsWith, GivesFewer, HasDigestFault, HasRestFault, HashesNext, IsDigest, ReadsCodes}
use Rattle.dob_dbfile.proofs.Common.{TakesBytes, Fault}
use Rattle.sha2.specs.declared.Sha256.{Sha256}
use Rattle.dob_dbfile.specs.Reading.{IsNoEnd}
use Rattle.dob_dbfile.specs.declared.fault.Fault.TheVariants.{Truncated, Trailing, Digest, Memory, Io}

-- ---- what is read piece after piece

-- nothing has been read
pub reads_none : (stream : Stream) (codes : List ℕ) → ReadsCodes stream 0 codes codes
reads_none stream codes = search rules

pub hashes_none : (stream : Stream) (hasher : Sha256) → HashesNext stream 0 hasher hasher
hashes_none stream hasher message holds = subst (Holds256 hasher) (sym (append-nil message)) holds

-- codes after codes
pub reads_more : (stream : Stream) (a b : ℕ) (old mid new : List ℕ) → ReadsCodes stream a old mid → ReadsCodes (after a stream) b mid new
    → ReadsCodes stream (a + b) old new
reads_more stream a b old mid new first second = record {
  within = omega (arith, first.within, second.within, length-drop a stream.bytes);
  more = first.more ++ second.more;
  grown = second.grown ∙ ap (λ (front : List ℕ). front ++ second.more) first.grown ∙ append_assoc old first.more second.more;
  same =
      flat_map-append (λ (code : ℕ). little_bytes 2 code) first.more second.more
      ∙ ap (λ (front : List ℕ). front ++ code_bytes second.more) first.same
      ∙ ap (λ (back : List ℕ). take a stream.bytes ++ back) second.same
      ∙ sym (take-add a b stream.bytes);
  counted = (let both : length (first.more ++ second.more) ≡ length first.more + length second.more = length-append first.more second.more in
      omega (arith, first.counted, second.counted));
}

pub hashes_more : (stream : Stream) (a b : ℕ) (old mid new : Sha256) → HashesNext stream a old mid → HashesNext (after a stream) b mid new
    → HashesNext stream (a + b) old new
hashes_more stream a b old mid new first second message holds =
    subst (Holds256 new)
    (append_assoc message (take a stream.bytes) (take b (drop a stream.bytes))
    ∙ ap (λ (back : List ℕ). message ++ back) (sym (take-add a b stream.bytes)))
    (second (message ++ take a stream.bytes) (first message holds))

-- a source that didn't fail at first has failed if it failed later
pub failed_later : (old mid new late : Bool) → mid ≡ (old || false) → new ≡ (mid || late) → new ≡ (old || late)
failed_later old mid new late first second = second ∙ ap (λ (b : Bool). b || late) (first ∙ or-false old)

-- what is cut short after some bytes is cut short
pub cut_later : (stream : Stream) (done wanted more before : ℕ) (fault : Fault) → done ≤ length stream.bytes → done + more ≤ wanted
    → GivesFewer more (before + done) (after done stream) fault → GivesFewer wanted before stream fault
cut_later stream done wanted more before Truncated there upto cut = (omega (arith, cut.0, length-drop done stream.bytes), cut.1)
cut_later stream done wanted more before (Io count) there upto cut =
    (omega (arith, cut.0, length-drop done stream.bytes), cut.1, omega (arith, cut.2, length-drop done stream.bytes))
cut_later stream done wanted more before Memory there upto cut = tt
cut_later stream done wanted more before _ there upto cut = cut

-- a piece has no more records than are left
pub few_more : (count done records longest : ℕ) (room : List ℕ) → done ≤ count → records ≡ min (count - done) longest
    → 2 * done + length (take (2 * records) room) ≤ 2 * count
few_more count done records longest room some piece =
    let taken : length (take (2 * records) room) ≡ min (2 * records) (length room) = length-take (2 * records) room in
    let front : min (2 * records) (length room) ≤ 2 * records = min-le_left (2 * records) (length room) in
    let left : min (count - done) longest ≤ count - done = min-le_left (count - done) longest in
    omega (arith, taken, front, left, piece, some)

-- ---- what the end of a file shows

-- a digest that is cut short
pub digest_cut : (message : List ℕ) (before : ℕ) (stream : Stream) (fault : Fault) → GivesFewer 32 before stream fault → HasDigestFault message before stream fault
digest_cut message before stream Truncated cut = cut
digest_cut message before stream (Io count) cut = (omega (arith, cut.0), cut.1, cut.2)
digest_cut message before stream Memory cut = tt
digest_cut message before stream _ cut = absurd cut

-- what is wrong where the digest is wanted is wrong after the header
pub rest_wrong : (stream : Stream) (front : List ℕ) (count : ℕ) (given : Fault) → 2 * count ≤ length stream.bytes
    → HasDigestFault (front ++ take (2 * count) stream.bytes) (length front + 2 * count) (after (2 * count) stream) given → HasRestFault front count stream given
rest_wrong stream front count Trailing there wrong = omega (arith, there, wrong, length-drop (2 * count) stream.bytes)
rest_wrong stream front count Digest there wrong = (omega (arith, there, wrong.0, length-drop (2 * count) stream.bytes), wrong.1, wrong.2)
rest_wrong stream front count (Io bytes) there wrong =
    (omega (arith, there, wrong.0, length-drop (2 * count) stream.bytes), wrong.1, omega (arith, there, wrong.2, length-drop (2 * count) stream.bytes))
rest_wrong stream front count Truncated there wrong = (omega (arith, there, wrong.0, length-drop (2 * count) stream.bytes), wrong.1)
rest_wrong stream front count Memory there wrong = tt
rest_wrong stream front count _ there wrong = absurd wrong

-- what is wrong behind the digest, where the stream should end
pub end_wrong : (message : List ℕ) (before : ℕ) (stream : Stream) (given : Fault) → 32 ≤ length stream.bytes → IsNoEnd (before + 32) (after 32 stream) given
    → HasDigestFault message before stream given
end_wrong message before stream Trailing there wrong = omega (arith, there, wrong, length-drop 32 stream.bytes)
end_wrong message before stream (Io bytes) there wrong =
    (omega (arith, there, wrong.0, length-drop 32 stream.bytes), wrong.1, omega (arith, there, wrong.0, wrong.2, length-drop 32 stream.bytes))
end_wrong message before stream _ there wrong = absurd wrong

-- the room holds all of a stream that ends after as many bytes
pub record IsAll (stream : Stream) (room : List ℕ) : Type 0 where
  pub ends : stream.fails ≡ false
  pub whole : length stream.bytes ≡ length room
  pub same : stream.bytes ≡ room

pub all_taken : (stream : Stream) (room : List ℕ) → TakesBytes stream room → after (length room) stream ≡ whole [] → IsAll stream room
all_taken stream room taken end =
    let none : drop (length room) stream.bytes ≡ [] = ap (λ (s : Stream). s.bytes) end in
    let rest : length stream.bytes - length room ≡ 0 = sym (length-drop (length room) stream.bytes) ∙ ap length none in
    let len : length stream.bytes ≡ length room = omega (arith, taken.within, rest) in
    record {
      ends = ap (λ (s : Stream). s.fails) end;
      whole = len;
      same = sym (take_all (length room) stream.bytes (omega (arith, len))) ∙ sym taken.same;
    }

-- the codes were read, and then the digest of all before it
pub ends_with : (stream : Stream) (front codes : List ℕ) (count : ℕ) → length codes ≡ count → ReadsCodes stream (2 * count) [] codes
    → IsDigest (front ++ take (2 * count) stream.bytes) (after (2 * count) stream) → EndsWith front codes stream
ends_with stream front codes count counted read digest =
    let rest : length stream.bytes - 2 * count ≡ 32 = sym (length-drop (2 * count) stream.bytes) ∙ digest.whole in
    let there : 2 * count ≤ length stream.bytes = read.within in
    record {
      ends = digest.ends;
      whole = omega (arith, rest, there, counted);
      records = ap code_bytes read.grown ∙ read.same ∙ ap (λ (n : ℕ). take (2 * n) stream.bytes) (sym counted);
      digest = subst (λ (n : ℕ). drop (2 * n) stream.bytes ≡ sha256 (front ++ take (2 * n) stream.bytes)) (sym counted) digest.digest;
    }
