pub mod Turning  -- rounds and their undoing
