-- What a fault is called, by its number: the number and the name that the program prints.
use Rattle.std.specs.Prelude.{ℕ, List, [], ◌∷◌, codes, get_or}

-- of the faults from 0 on; there are no others here
abbrev pub names : List (List ℕ)
names = [] ∷ codes "E1 Shape" ∷ codes "E2 Letter" ∷ codes "E3 Hand" ∷ codes "E4 Lions" ∷ codes "E5 Count" ∷ codes "E6 FarLion" ∷ codes "E7 OtherSet"
    ∷ [] ∷ [] ∷ [] ∷ [] ∷ [] ∷ [] ∷ []
    ∷ codes "E15 Truncated" ∷ codes "E16 Magic" ∷ codes "E17 SetByte" ∷ codes "E18 ClassCount" ∷ codes "E19 Trailing" ∷ codes "E20 Digest"
    ∷ codes "E21 Inconsistent" ∷ [] ∷ codes "E23 Memory" ∷ codes "E24 Io" ∷ codes "E25 SetText" ∷ codes "E26 FarChick" ∷ codes "E27 ProfileByte"
    ∷ codes "E28 NoMove" ∷ codes "E29 Index" ∷ codes "E30 Unsupported" ∷ codes "E31 Claim" ∷ codes "E32 Version" ∷ codes "E33 RootClass"
    ∷ codes "E34 ClaimByte" ∷ codes "E35 EntryCount" ∷ codes "E36 EntryNumber" ∷ codes "E37 EntryOrder" ∷ codes "E38 EntryClass"
    ∷ [] ∷ [] ∷ [] ∷ codes "E42 EntryPlies" ∷ []

abbrev pub name_of : ℕ → List ℕ
name_of fault = get_or names fault []
