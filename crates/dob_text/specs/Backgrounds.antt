-- What a picture begins with: the pieces, each round its own centre, the board with the names of its rows and columns, and whose hand is which.
use Rattle.std.specs.Prelude.{ℕ, List, [], ◌∷◌, ◌++◌, codes, map}
use Rattle.std.specs.List.{concat}
use Rattle.dob_pieces.specs.Bytes.{line_feed}

-- its lines
abbrev pub background_lines : List (List ℕ)
background_lines =
    codes "<svg xmlns='http://www.w3.org/2000/svg' viewBox='0 0 760 480' font-family='sans-serif' font-size='20' text-anchor='middle'>" ∷
    codes "<defs>" ∷
    codes "<g id='L'><path d='M-34-44H34Q44-44 44-34V34Q44 44 34 44H-34Q-44 44-44 34V-34Q-44-44-34-44Z' fill='#f6b8bd' stroke='#7a5a3a' stroke-width='2'/><circle cx='0' cy='-37' r='4' fill='#d22'/><circle cx='0' cy='37' r='4' fill='#d22'/><circle cx='37' cy='0' r='4' fill='#d22'/><circle cx='-37' cy='0' r='4' fill='#d22'/><circle cx='37' cy='-37' r='4' fill='#d22'/><circle cx='37' cy='37' r='4' fill='#d22'/><circle cx='-37' cy='-37' r='4' fill='#d22'/><circle cx='-37' cy='37' r='4' fill='#d22'/><circle cy='-2' r='27' fill='#a8591c'/><circle cy='-2' r='19' fill='#f5c242'/><circle cx='-7' cy='-6' r='3' fill='#222'/><circle cx='7' cy='-6' r='3' fill='#222'/><path d='M-4 2H4L0 7ZM-7 11Q0 16 7 11' fill='#222'/><text x='-26' y='34' font-size='17'>L</text></g>" ∷
    codes "<g id='G'><path d='M-34-44H34Q44-44 44-34V34Q44 44 34 44H-34Q-44 44-44 34V-34Q-44-44-34-44Z' fill='#cfc3ea' stroke='#7a5a3a' stroke-width='2'/><circle cx='0' cy='-37' r='4' fill='#d22'/><circle cx='0' cy='37' r='4' fill='#d22'/><circle cx='37' cy='0' r='4' fill='#d22'/><circle cx='-37' cy='0' r='4' fill='#d22'/><path d='M-9 30V-6L-14-22H12L17-8H5V30Z' fill='#f5d04a'/><path d='M-8-22V-31M2-22V-31' stroke='#8a5a20' stroke-width='4'/><circle cx='-3' cy='2' r='4' fill='#a8661e'/><circle cx='1' cy='14' r='4' fill='#a8661e'/><circle cx='-4' cy='24' r='3' fill='#a8661e'/><circle cx='1' cy='-15' r='3' fill='#222'/><text x='-26' y='34' font-size='17'>G</text></g>" ∷
    codes "<g id='E'><path d='M-34-44H34Q44-44 44-34V34Q44 44 34 44H-34Q-44 44-44 34V-34Q-44-44-34-44Z' fill='#cfc3ea' stroke='#7a5a3a' stroke-width='2'/><circle cx='37' cy='-37' r='4' fill='#d22'/><circle cx='37' cy='37' r='4' fill='#d22'/><circle cx='-37' cy='-37' r='4' fill='#d22'/><circle cx='-37' cy='37' r='4' fill='#d22'/><circle cx='-19' cy='-5' r='14' fill='#7fa6c9'/><circle cx='19' cy='-5' r='14' fill='#7fa6c9'/><circle cy='-5' r='19' fill='#96bbdb'/><path d='M0 2V19Q0 28 10 25' fill='none' stroke='#96bbdb' stroke-width='10'/><path d='M-11 9L-15 18M11 9L15 18' stroke='#fff' stroke-width='4'/><circle cx='-8' cy='-9' r='3' fill='#222'/><circle cx='8' cy='-9' r='3' fill='#222'/><text x='-26' y='34' font-size='17'>E</text></g>" ∷
    codes "<g id='C'><path d='M-34-44H34Q44-44 44-34V34Q44 44 34 44H-34Q-44 44-44 34V-34Q-44-44-34-44Z' fill='#c4e5b4' stroke='#7a5a3a' stroke-width='2'/><circle cx='0' cy='-37' r='4' fill='#d22'/><circle cy='4' r='22' fill='#fbe04c'/><circle cx='-8' cy='-1' r='3' fill='#222'/><circle cx='8' cy='-1' r='3' fill='#222'/><path d='M-6 4H6L0 12Z' fill='#ef8a1d'/><path d='M-22 6L-30 0M22 6L30 0' stroke='#fbe04c' stroke-width='6'/><text x='-26' y='34' font-size='17'>C</text></g>" ∷
    codes "<g id='H'><path d='M-34-44H34Q44-44 44-34V34Q44 44 34 44H-34Q-44 44-44 34V-34Q-44-44-34-44Z' fill='#c4e5b4' stroke='#7a5a3a' stroke-width='2'/><circle cx='0' cy='-37' r='4' fill='#d22'/><circle cx='37' cy='-37' r='4' fill='#d22'/><circle cx='-37' cy='-37' r='4' fill='#d22'/><circle cx='37' cy='0' r='4' fill='#d22'/><circle cx='-37' cy='0' r='4' fill='#d22'/><circle cx='0' cy='37' r='4' fill='#d22'/><path d='M-12-12Q-12-28-4-20Q0-32 4-20Q12-28 12-12Z' fill='#d8342b'/><circle cy='5' r='22' fill='#fff'/><circle cx='-8' cy='0' r='3' fill='#222'/><circle cx='8' cy='0' r='3' fill='#222'/><path d='M-6 5H6L0 13Z' fill='#ef8a1d'/><circle cy='17' r='4' fill='#d8342b'/><text x='-26' y='34' font-size='17'>H</text></g>" ∷
    codes "</defs>" ∷
    codes "<rect width='760' height='480' fill='#fffaf0'/>" ∷
    codes "<rect x='230' y='40' width='300' height='100' fill='#cfe8f7'/>" ∷
    codes "<rect x='230' y='140' width='300' height='200' fill='#f3e3bd'/>" ∷
    codes "<rect x='230' y='340' width='300' height='100' fill='#cde7b5'/>" ∷
    codes "<path d='M230 40V440M330 40V440M430 40V440M530 40V440M230 40H530M230 140H530M230 240H530M230 340H530M230 440H530' stroke='#7a5a3a' stroke-width='2'/>" ∷
    codes "<text x='280' y='28'>a</text><text x='280' y='466'>a</text>" ∷
    codes "<text x='380' y='28'>b</text><text x='380' y='466'>b</text>" ∷
    codes "<text x='480' y='28'>c</text><text x='480' y='466'>c</text>" ∷
    codes "<text x='216' y='97'>4</text><text x='544' y='97'>4</text>" ∷
    codes "<text x='216' y='197'>3</text><text x='544' y='197'>3</text>" ∷
    codes "<text x='216' y='297'>2</text><text x='544' y='297'>2</text>" ∷
    codes "<text x='216' y='397'>1</text><text x='544' y='397'>1</text>" ∷
    codes "<text x='106' y='28'>other side</text><text x='656' y='466'>side to move</text>" ∷
    []

abbrev pub background : List ℕ
background = concat (map (λ line. line ++ line_feed ∷ []) background_lines)
