-- Boards as layers, choices of squares and forms, and masks of layers.
pub mod Choices  -- the numbers of choices of squares
pub mod Settled  -- a choice settles its layer again
pub mod EachCell  -- what holds of each side's piece of each kind
pub mod FormDigits  -- forms as digits
pub mod EmptySquares  -- pieces placed on the squares that are left
pub mod LayerCounts  -- what the layers of a position count, and layers settled up to one of them
pub mod KeyParts  -- squares and forms, layer by layer
pub mod Placed  -- a piece more on the board
pub mod LayerMasks  -- masks of layers and what their bits count
pub mod BoardLayers  -- the layers and forms that a board's sets show
pub mod BoardMasks  -- what the masks of a position say
pub mod Pairs  -- the tables of choices of two squares
