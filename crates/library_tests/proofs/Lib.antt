mod CalledFrames
