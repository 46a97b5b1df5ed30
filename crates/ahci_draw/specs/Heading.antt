-- What comes before the rows of a picture. It has no style sheet: each colour is where it is used, so that nothing of a
-- picture reaches the rest of a page.
use Rattle.std.specs.Prelude.{ℕ, ◌+◌, ◌-◌, ◌*◌, List, ◌++◌, codes, max, min}
use Rattle.ahci_draw.specs.Overview.{overview_height}
use Rattle.ahci_draw.specs.Row.{row_height, rows_in, stacks_in}
use Rattle.ahci_draw.specs.Text.{numbered}

-- how wide the picture of so many columns is
abbrev pub width_of : ℕ → ℕ
width_of columns = max (12 * min columns 100 + 80 + 1280 * (stacks_in columns - 1)) 640

-- the end of the frame's tag, and what colours and signs mean
abbrev pub key_text : List ℕ
key_text =
    codes "' font-family='sans-serif' font-size='9' text-anchor='middle' stroke-width='13'>\n"
    ++ (codes "<rect width='100%' height='100%' fill='#fff'/>\n"
    ++ (codes "<g font-size='11' text-anchor='start'>\n"
    ++ (codes "<path stroke='#fe8' d='M8 36h12'/><path stroke='#ea1' d='M22 36h12'/><text x='40' y='40'>issued</text>\n"
    ++ (codes "<path stroke='#bdf' d='M96 36h12'/><path stroke='#49f' d='M110 36h12'/><text x='128' y='40'>accepted</text>\n"
    ++ (codes "<path stroke='#fbb' d='M196 36h12'/><path stroke='#e55' d='M210 36h12'/><text x='228' y='40'>failed</text>\n"
    ++ (codes "<path stroke='#ddd' d='M280 36h12'/><path stroke='#aaa' d='M294 36h12'/><text x='312' y='40'>held</text>\n"
    ++ (codes "<path stroke='#bea' d='M356 36h12'/><path stroke='#5b6' d='M370 36h12'/><text x='388' y='40'>done</text>\n"
    ++ (codes "<text x='436' y='40'>light: a read, dark: a write</text>\n"
    ++ (codes "<text x='8' y='58'>R a read is issued, W a write, N issued again, A accepted, C completed, X failed, V recovered, E collected</text>\n"
    ++ codes "<text x='8' y='74'>above the lanes: I IDENTIFY DEVICE, F FLUSH CACHE EXT, L READ LOG EXT; below: tags outstanding in the device</text>\n")))))))))

-- the frame, with its width, its height and what of its plane is seen, the key, and how many entries are drawn and tags have a lane
unfoldable pub heading_shape : (width height columns lanes : ℕ) → List ℕ
heading_shape width height columns lanes =
    numbered (codes "<svg xmlns='http://www.w3.org/2000/svg' width='") width ++ (numbered (codes "' height='") height
    ++ (numbered (codes "' viewBox='0 0 ") width ++ (numbered (codes " ") height ++ (key_text
    ++ (numbered (codes "<text x='8' y='18' font-size='13'>entries: ") columns ++ (numbered (codes ", tags: ") lanes ++ codes "</text></g>"))))))

-- how high it is: its heading, its overview and its rows
abbrev pub height_of : (columns lanes : ℕ) → ℕ
height_of columns lanes = row_height lanes * min (rows_in columns) 48 + 96 + overview_height columns

abbrev pub heading_text : (columns lanes : ℕ) → List ℕ
heading_text columns lanes = heading_shape (width_of columns) (height_of columns lanes) columns lanes
